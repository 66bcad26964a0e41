-- Which path the mark of a file holds, by what a change leaves of the inodes.
use Rattle.std.proofs.Common.{◌≡◌, ◌≢◌, ◌⊎◌, ℕ, Bool, true, false, cond, ◌&&◌, List, Option, None, Some, Result, Ok, Err, OnOk, OnErr, refl, sym, ap, ◌∙◌, subst, inl, inr, is_some}
use Rattle.std.proofs.lemmas.Bool.{false≢true, cases_eq}
use Rattle.std.specs.Prelude.{option_map}
use Rattle.std.specs.Option.{option_and_then}
use Rattle.std.specs.declared.alloc.AllocError.{AllocError}
use Rattle.ov_base.specs.declared.attributes.Attributes.{Attributes}
use Rattle.ov_base.specs.declared.bytes.Content.{Content}
use Rattle.plain_model.specs.Layers.{Path, Inode, Layer, below, fill, is_file}
use Rattle.layer_tree.specs.ContentChange.{SetsBytes}
use Rattle.layer_tree.specs.Nameless.{KeepsObjects}
use Rattle.layer_tree.specs.Tree.{Tree, layer_of}
use Rattle.merged_lookup.specs.declared.layers.Layers.{Layers}
use Rattle.merged_lookup.specs.Merged.{upper_of, lowers_of}
use Rattle.copy_up.specs.Leaves.{CopiesLeaf, copy_mark}
use Rattle.copy_up.specs.Showing.{ChangesNoSight, GainsParents}
use Rattle.copy_up.specs.Texts.{mark_in, GainsMark, KeepsTexts}

-- the mark of an inode that may be there
abbrev pub mark_of : Option Inode → Option Path
mark_of i = option_and_then (λ (x : Inode). x.mark) i

-- inodes that stay gain no mark
pub marks-same : (U V : Layer) (m : Option Path) → ((k : ℕ) → V.inodes k ≡ U.inodes k) → GainsMark U V m
marks-same U V m same k q is = inl (sym (ap mark_of (same k)) ∙ is)

-- and so it is by two changes, one after the other
pub marks-then : (U V W : Layer) (m : Option Path) → GainsMark U V m → GainsMark V W m → GainsMark U W m
marks-then U V W m first then k q is = elim (then k q is) [
  | inl h ↦ first k q h
  | inr h ↦ inr h
]

-- where one inode changes, it is by its own mark
pub marks-but : (U V : Layer) (m : Option Path) (n : ℕ) → ((k : ℕ) → k ≢ n → V.inodes k ≡ U.inodes k) →
    ((q : Path) → mark_in V n ≡ Some q → (mark_in U n ≡ Some q) ⊎ (m ≡ Some q)) → GainsMark U V m
marks-but U V m n others there k q is = elim (cases_eq k n) [
  | inl e ↦ subst (λ j. (mark_in U j ≡ Some q) ⊎ (m ≡ Some q)) (sym e) (there q (sym (ap (mark_in V) e) ∙ is))
  | inr ne ↦ inl (sym (ap mark_of (others k ne)) ∙ is)
]

-- objects that are kept, but for one
pub marks-kept : (t u : Tree) (m : Option Path) (n : ℕ) → KeepsObjects t u (Some n) →
    ((q : Path) → mark_in (layer_of u) n ≡ Some q → (mark_in (layer_of t) n ≡ Some q) ⊎ (m ≡ Some q)) → GainsMark (layer_of t) (layer_of u) m
marks-kept t u m n kept there = marks-but (layer_of t) (layer_of u) m n (λ k off. kept.inodes k (λ e. off (cc))) there

-- parents that are gained bring no mark
pub texts-gained : (old new : Layers) (p : Path) (m : Option Path) → GainsParents old new p → KeepsTexts old new m
texts-gained old new p m g = marks-same (layer_of old.upper) (layer_of new.upper) (option_map (below (layer_of old.upper)) m) (λ k. g.objects.inodes k (λ e. cc))

-- the same upper has the same marks
pub texts-still : (old new : Layers) (m : Option Path) → new ≡ old → KeepsTexts old new m
texts-still old new m same = subst (λ (z : Layers). KeepsTexts old z m) (sym same) (λ k q is. inl is)

-- a filled inode has its mark
raw-mark : (lowers : List Layer) (o : Option Inode) → mark_of (option_map (fill lowers) o) ≡ mark_of o
raw-mark lowers None = refl
raw-mark lowers (Some i) = refl

-- the mark of a copy is the spelling
pub copy-told : (b : Bool) (s q : Path) → cond b (Some s) None ≡ Some q → Some s ≡ Some q
copy-told true s q e = e
copy-told false s q e = absurd (false≢true (ap is_some e))

-- a new inode has its own mark
pub texts-new : (old new : Layers) (n : ℕ) (i : Inode) (m : Option Path) → (upper_of new).inodes n ≡ Some i → KeepsObjects old.upper new.upper (Some n) →
    ((q : Path) → i.mark ≡ Some q → option_map (below (layer_of old.upper)) m ≡ Some q) → KeepsTexts old new m
texts-new old new n i m there kept told =
    marks-kept old.upper new.upper (option_map (below (layer_of old.upper)) m) n kept
    (λ q is. inr (told q (sym (ap mark_of there) ∙ raw-mark (lowers_of new) ((layer_of new.upper).inodes n) ∙ is)))

-- so a copy of a file or link has the path's spelling, or none
pub texts-copied : (old new : Layers) (p : Path) (c : Content) (mark : Option Path) (a : Attributes) → CopiesLeaf old new p c mark a →
    (low : Bool) → mark ≡ copy_mark low (layer_of old.upper) p c → KeepsTexts old new (Some p)
texts-copied old new p c mark a leaf low told =
    texts-new old new leaf.number _ (Some p) leaf.inode leaf.objects
    (λ q is. copy-told (low && is_file c) (below (layer_of old.upper) p) q (sym told ∙ is))

-- a file that gets bytes of its own has none
pub marks-filled : (U V : Layer) (key : ℕ) (bytes : List ℕ) → SetsBytes U V key bytes → GainsMark U V None
marks-filled U V key bytes s = marks-but U V None key s.inodes (λ q is. absurd (false≢true (ap is_some (sym (ap mark_of s.now) ∙ is))))

pub texts-filled : (old new : Layers) (key : ℕ) (bytes : List ℕ) → SetsBytes (layer_of old.upper) (layer_of new.upper) key bytes → KeepsTexts old new None
texts-filled old new key bytes s = marks-filled (layer_of old.upper) (layer_of new.upper) key bytes s

-- a change that brings no mark, after one that may
pub texts-after : (a b c : Layers) (m : Option Path) → KeepsTexts a b m → KeepsTexts b c None → KeepsTexts a c m
texts-after a b c m first then k q is = elim (then k q is) [
  | inl h ↦ first k q h
  | inr h ↦ absurd (false≢true (ap is_some h))
]

-- whether it is done or memory runs out
pub texts-either : {A : Type 0} (old new : Layers) (p : Path) (m : Option Path) (r : Result A AllocError) → OnOk r (KeepsTexts old new m) →
    OnErr r (ChangesNoSight old new (GainsParents old new p)) → KeepsTexts old new m
texts-either old new p m (Ok x) done out = done
texts-either old new p m (Err e) done out = texts-gained old new p m out.beneath
