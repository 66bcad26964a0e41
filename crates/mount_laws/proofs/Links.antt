-- What symlink makes of the tree, and that the layers which gain the link show it.
use Rattle.std.proofs.Common.{◌≡◌, ℕ, true, false, List, ◌∷◌, Option, None, Some, refl, sym, ap, ap₂, ◌∙◌, ◌⊎◌, inl, inr, is_some, length, Bool}
use Rattle.std.specs.Prelude.{nat_eq, nat_lt}
use Rattle.std.proofs.lemmas.Bool.{cases_Bool, both_ways}
use Rattle.ov_base.specs.declared.attributes.Attributes.{Attributes}
use Rattle.ov_base.specs.declared.bytes.Content.{Content}
use Rattle.ov_base.specs.declared.bytes.Content.TheVariants.{SymbolicLink}
use Rattle.ov_base.specs.declared.call.CallOf.TheVariants.{Symlink}
use Rattle.ov_base.specs.declared.errno.Errno.{Errno}
use Rattle.ov_base.specs.declared.errno.Errno.TheVariants.{ENOENT, EEXIST, EINVAL, ENAMETOOLONG}
use Rattle.plain_model.specs.Layers.{Name, Path, Named, Layer, held, shows, same_path}
use Rattle.plain_model.specs.Tree.{Node, Leaf, Own, names_of, AreLinked}
use Rattle.plain_model.specs.Machine.{State}
use Rattle.plain_model.specs.Refusals.{when, has_nul}
use Rattle.plain_model.specs.Changes.{fresh}
use Rattle.plain_model.proofs.Kept.{law_of_names}
use Rattle.plain_model.proofs.Looking.{when-not}
use Rattle.plain_model.proofs.Paths.{paths_tell}
use Rattle.mount_laws.specs.Looks.{or_else as first, parents_fault, IsMountOf}
use Rattle.mount_laws.specs.Leaves.{symlink_fault, GainsLeaf, MakesLink, LawOfLinkMade, GainsLeafAs}
use Rattle.mount_laws.proofs.Looks.{none-of, to-parents, finds}
use Rattle.mount_laws.proofs.Makes.{Spot, free-spot, way-shows, way-stays, way-hidden}
use Rattle.mount_laws.proofs.Places.{named-shown}
use Rattle.mount_laws.proofs.Refusing.{law_of_symlink}

-- where the first of two faults is none, and so the second
pub first-none : (a b : Option Errno) → first a b ≡ None → a ≡ None
first-none None b h = refl
first-none (Some e) b h = cc

pub second-none : (a b : Option Errno) → first a b ≡ None → b ≡ None
second-none None b h = h
second-none (Some e) b h = cc

-- an upper that gains a file or link where none of its names was names as before
module _ (U V : Layer) (lowers : List Layer) (low : Bool) (p : Path) (content : Content) (a : Attributes) (new : (k : ℕ) → held U p ≡ Some (Named k) → ⊥) (g : GainsLeafAs U V lowers low p content a) where
  -- the number of the new inode has p as its only name
  only-name : (y z : Path) (k : ℕ) → p ≡ y → held V y ≡ Some (Named k) → held V z ≡ Some (Named k) → z ≡ p
  only-name y z k e a b =
      let number : k ≡ g.number = (let w : Some (Named k) ≡ Some (Named g.number) = sym a ∙ sym (ap (held V) e) ∙ g.here in cc) in
      g.alone z (b ∙ ap (λ k. Some (Named k)) number)

  pub before : (y z : Path) → AreLinked V y z → (y ≡ z) ⊎ AreLinked U y z
  before y z l = by (cases_Bool (same_path p y)) (cases_Bool (same_path p z))
    where
      apart : (y : Path) → same_path p y ≡ false → y ≡ p → ⊥
      apart y f e = both_ways (same_path p y) f ((paths_tell p y).1 (sym e))

      by : (same_path p y ≡ true) ⊎ (same_path p y ≡ false) → (same_path p z ≡ true) ⊎ (same_path p z ≡ false) → (y ≡ z) ⊎ AreLinked U y z
      by (inl h) j = let e = (paths_tell p y).0 h in inl (sym e ∙ sym (only-name y z l.number e l.first l.second))
      by (inr h) (inl j) = let e = (paths_tell p z).0 j in inl (only-name z y l.number e l.second l.first ∙ e)
      by (inr h) (inr j) = inr (record { number = l.number; first = (g.names y l.number (apart y h)).0 l.first; second = (g.names z l.number (apart z j)).0 l.second })

  -- what U names is not at p
  away : (y : Path) (k : ℕ) → held U y ≡ Some (Named k) → y ≡ p → ⊥
  away y k h e = new k (ap (held U) (sym e) ∙ h)

  pub later : (y z : Path) → AreLinked U y z → AreLinked V y z
  later y z l = record {
    number = l.number;
    first = (g.names y l.number (away y l.number l.first)).1 l.first;
    second = (g.names z l.number (away z l.number l.second)).1 l.second;
  }

module _ (U V : Layer) (lowers : List Layer) (s : State) (m : IsMountOf U lowers s) (c : ℕ) (target : List ℕ) (p : Path) (fine : symlink_fault (U ∷ lowers) target p ≡ None) (g : GainsLeaf U V lowers p (SymbolicLink target) (fresh 0o777)) where
  abbrev x : Node
  x = Leaf (SymbolicLink target) (fresh 0o777) (Own false) 1

  abbrev last : Option Errno
  last = first (parents_fault (U ∷ lowers) p) (when (is_some (shows 0 (U ∷ lowers) p)) EEXIST)

  -- the parents are there, and the name is free
  last-none : last ≡ None
  last-none =
      second-none (when (has_nul target) EINVAL) last
      (second-none (when (nat_eq (length target) 0) ENOENT) _
      (second-none (when (nat_lt 4095 (length target)) ENAMETOOLONG) _ fine))

  free : shows 0 (U ∷ lowers) p ≡ None
  free = none-of (shows 0 (U ∷ lowers) p) (when-not (is_some (shows 0 (U ∷ lowers) p)) EEXIST (second-none (parents_fault (U ∷ lowers) p) _ last-none))

  unnamed : (k : ℕ) → held U p ≡ Some (Named k) → ⊥
  unnamed k h = named-shown U lowers p k h free

  spot : Spot s.tree p
  spot = free-spot s.tree p None (ap₂ (λ e b. first e (when b EEXIST)) (to-parents U lowers s m p) (finds U lowers s m p) ∙ last-none)

  bare : (n : Name) → names_of (Some x) n ≡ None
  bare n = refl

  makes-link : MakesLink V lowers s c target p
  makes-link = record {
    answer = refl;
    mounts = record {
      layers = g.layers;
      shows = way-shows U V lowers s m p spot x bare g.sights (before U V lowers false p (SymbolicLink target) (fresh 0o777) unnamed g) (later U V lowers false p (SymbolicLink target) (fresh 0o777) unnamed g);
      kept = law_of_names s c (Symlink target p) m.kept (law_of_symlink U lowers s m c target p ∙ fine);
      writable = m.writable;
    };
    tables = refl;
    stays = way-stays U V lowers s m p spot x bare g.sights (before U V lowers false p (SymbolicLink target) (fresh 0o777) unnamed g) (later U V lowers false p (SymbolicLink target) (fresh 0o777) unnamed g);
    hidden = way-hidden U V lowers s m p spot x bare g.sights (before U V lowers false p (SymbolicLink target) (fresh 0o777) unnamed g) (later U V lowers false p (SymbolicLink target) (fresh 0o777) unnamed g);
  }

-- symlink makes the mount one of the upper that gains the link
pub law_of_link_made : LawOfLinkMade
law_of_link_made U V lowers s m c target p fine g = makes-link U V lowers s m c target p fine g
