-- What placing missing parents leaves of the upper as it was.
use Rattle.std.proofs.Common.{◌≡◌, ℕ, false, ◌∷◌, ◌++◌, None, Some, refl, sym, ap, ◌∙◌, subst, map, inl, inr}
use Rattle.slab.specs.Slab.{get}
use Rattle.ov_base.specs.declared.attributes.Attributes.{Attributes}
use Rattle.plain_model.specs.Layers.{Name, Path, Directory, Folder, held, over, shows, through}
use Rattle.plain_model.specs.Laws.{IsOutside}
use Rattle.plain_model.proofs.Uppers.{through-agree}
use Rattle.plain_model.proofs.Paths.{one_or_not, paths_tell}
use Rattle.layer_tree.specs.Tree.{layer_of, SetsPath, SameObjects}
use Rattle.layer_tree.specs.Nameless.{KeepsObjects}
use Rattle.layer_tree.proofs.Nameless.{keeps_then, vacant_before}
use Rattle.merged_lookup.specs.declared.layers.Layers.{Layers}
use Rattle.merged_lookup.specs.Merged.{upper_of, layers_of, lowers_of}
use Rattle.copy_up.specs.Showing.{ShowsSame, is_object, IsParent, PlacedParent, KeepsPath, GainsParents, KeepsOthers}

pub gains-self : (l : Layers) (p : Path) → GainsParents l l p
gains-self l p = record { lowers = refl; paths = λ x. inl refl; objects = record { seen = λ k there. refl; inodes = λ k off. refl; nameless = λ k h. h } }

-- an upper that holds the same gains nothing
pub gains-unchanged : (old new : Layers) (p : Path) → new.lowers ≡ old.lowers → SameObjects (layer_of old.upper) (layer_of new.upper) → KeepsObjects old.upper new.upper None → GainsParents old new p
gains-unchanged old new p low same kept = record { lowers = low; paths = λ x. inl (same x); objects = kept }

-- parents of p are parents of what is in p
pub gains-further : (old new : Layers) (n : Name) (p : Path) → GainsParents old new p → GainsParents old new (n ∷ p)
gains-further old new n p g = record { lowers = g.lowers; paths = λ x. by x (g.paths x); objects = g.objects }
  where
    by : (x : Path) → KeepsPath old new p x → KeepsPath old new (n ∷ p) x
    by x (inl e) = inl e
    by x (inr h) = inr (record {
      parent = (n, h.parent.0 ∷ h.parent.1, ap (λ z. n ∷ z) h.parent.2);
      lacked = h.lacked;
      layer = h.layer;
      key = h.key;
      attributes = h.attributes;
      shown = h.shown;
      number = h.number;
      vacant = h.vacant;
      gained = h.gained;
    })

-- a directory that is placed at a parent, and nowhere else, is the parent that is gained
pub gains-one : (old new : Layers) (p x : Path) (layer key number : ℕ) (a : Attributes) → IsParent x p → new.lowers ≡ old.lowers → shows 0 (layers_of old) x ≡ Some (Folder layer key a) → held (layer_of old.upper) x ≡ None → SetsPath (layer_of old.upper) (layer_of new.upper) x (Directory number a false None) → get old.upper number ≡ None → KeepsObjects old.upper new.upper None → GainsParents old new p
gains-one old new p x layer key number a parent low shown lacked sets vacant kept =
    record {
      lowers = low;
      paths = λ y. elim (one_or_not paths_tell y x) [
        | inl e ↦ subst (KeepsPath old new p) (sym e) (inr (record { parent = parent; lacked = lacked; layer = layer; key = key; attributes = a; shown = shown; number = number; vacant = vacant; gained = sets.there }))
        | inr ne ↦ inl (sets.elsewhere y ne)
      ];
      objects = kept;
    }

-- what is shown where the upper holds nothing is what comes through it
pub lacking : (l : Layers) (x : Path) → held (layer_of l.upper) x ≡ None → shows 0 (layers_of l) x ≡ through (layer_of l.upper) (lowers_of l) x
lacking l x none = ap (λ o. over 0 (upper_of l).inodes o (through (layer_of l.upper) (lowers_of l) x)) none

-- what comes through an upper that shows the same is the same
pub through-same : (a b : Layers) (x : Path) → ShowsSame a b → through (layer_of b.upper) (lowers_of b) x ≡ through (layer_of a.upper) (lowers_of a) x
through-same a b x s =
    ap (λ v. through (layer_of b.upper) (map layer_of v.items) x) s.lowers
    ∙ through-agree (layer_of a.upper) (layer_of b.upper) (lowers_of a) x (record { cut_alike = s.passes.cuts x; spelled = s.passes.spelling x })

-- a parent that is gained after others were
pub parent-since : (a b c : Layers) (t x : Path) → ShowsSame a b → KeepsObjects a.upper b.upper None → held (layer_of a.upper) x ≡ None → PlacedParent b c t x → PlacedParent a c t x
parent-since a b c t x same kept none g = record {
  parent = g.parent;
  lacked = none;
  layer = g.layer;
  key = g.key;
  attributes = g.attributes;
  shown = lacking a x none ∙ sym (through-same a b x same) ∙ sym (lacking b x g.lacked) ∙ g.shown;
  number = g.number;
  vacant = vacant_before a.upper b.upper None kept g.number g.vacant;
  gained = g.gained;
}

-- and one that stays where it is gained
pub parent-then : (a b c : Layers) (t x y : Path) → y ≡ x → held (layer_of c.upper) y ≡ held (layer_of b.upper) x → PlacedParent a b t x → PlacedParent a c t x
parent-then a b c t x y at e g = record {
  parent = g.parent;
  lacked = g.lacked;
  layer = g.layer;
  key = g.key;
  attributes = g.attributes;
  shown = g.shown;
  number = g.number;
  vacant = g.vacant;
  gained = sym (ap (held (layer_of c.upper)) at) ∙ e ∙ g.gained;
}

-- what a path holds is kept where it holds the same afterwards
pub path-then :
    (a b c : Layers) (p x : Path) → held (layer_of c.upper) x ≡ held (layer_of b.upper) x →
    KeepsPath a b p x → KeepsPath a c p x
path-then a b c p x e (inl f) = inl (e ∙ f)
path-then a b c p x e (inr g) = inr (parent-then a b c p x x refl e g)

-- parents that are gained one after the other
pub gains-then : (a b c : Layers) (p : Path) → ShowsSame a b → GainsParents a b p → GainsParents b c p → GainsParents a c p
gains-then a b c p same s t = record { lowers = t.lowers ∙ s.lowers; paths = λ x. by x (s.paths x) (t.paths x); objects = keeps_then a.upper b.upper c.upper None s.objects t.objects }
  where
    by : (x : Path) → KeepsPath a b p x → KeepsPath b c p x → KeepsPath a c p x
    by x kept (inl f) = path-then a b c p x f kept
    by x (inl e) (inr g) = inr (parent-since a b c p x same s.objects (sym e ∙ g.lacked) g)
    by x (inr g) (inr h) = let two : Some (Directory g.number g.attributes false None) ≡ None = sym g.gained ∙ h.lacked in absurd (cc)

-- a change at p, after missing parents of p were gained
pub others-then : (a b c : Layers) (p : Path) → GainsParents a b p → c.lowers ≡ b.lowers → ((x : Path) → IsOutside p x → held (layer_of c.upper) x ≡ held (layer_of b.upper) x) → ((n : Name) (r : Path) → is_object (held (layer_of b.upper) (n ∷ r ++ p)) ≡ false) → ((n : Name) (r : Path) → held (layer_of c.upper) (n ∷ r ++ p) ≡ None) → KeepsOthers a c p
others-then a b c p s low outside bare below = record { lowers = low ∙ s.lowers; paths = λ x out. path-then a b c p x (outside x out) (s.paths x); bare = λ n r. was (n ∷ r ++ p) (bare n r) (s.paths (n ∷ r ++ p)); below = below }
  where
    was : (x : Path) → is_object (held (layer_of b.upper) x) ≡ false → KeepsPath a b p x → is_object (held (layer_of a.upper) x) ≡ false
    was x h (inl e) = sym (ap is_object e) ∙ h
    was x h (inr g) = ap is_object g.lacked
