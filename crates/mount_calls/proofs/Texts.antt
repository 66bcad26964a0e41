-- Which path the mark of a file holds after calls that make no mark.
use Rattle.std.proofs.Common.{◌≡◌, ℕ, List, Option, None, Some, IsSome, Result, Ok, Err, OnOk, OnErr, refl, sym, ap, ◌∙◌, subst, inl, is_some}
use Rattle.std.proofs.lemmas.Bool.{false≢true}
use Rattle.std.specs.Prelude.{option_map}
use Rattle.std.specs.declared.alloc.AllocError.{AllocError}
use Rattle.ov_base.specs.declared.attributes.Attributes.{Attributes}
use Rattle.ov_base.specs.declared.bytes.Content.{Content}
use Rattle.plain_model.specs.Layers.{Path, Inode, below, held}
use Rattle.layer_tree.specs.ContentChange.{SetsBytes}
use Rattle.layer_tree.specs.Nameless.{KeepsObjects}
use Rattle.layer_tree.specs.Tree.{Tree, SameTree, layer_of, inode_at, own_at, with_less}
use Rattle.merged_lookup.specs.declared.layers.Layers.{Layers}
use Rattle.copy_up.specs.Leaves.{CopiesLeaf}
use Rattle.copy_up.specs.Showing.{number_of}
use Rattle.copy_up.specs.Texts.{GainsMark, KeepsTexts}
use Rattle.copy_up.proofs.Texts.{mark_of, marks-filled, marks-kept, marks-same, texts-new}
use Rattle.make_remove.specs.Leaves.{MakesLeaf}
use Rattle.make_remove.specs.Removing.{Unnames}
use Rattle.notice_laws.proofs.Numbers.{some-is}

-- objects that are all kept
pub texts-kept : (old new : Layers) (m : Option Path) → KeepsObjects old.upper new.upper None → KeepsTexts old new m
texts-kept old new m kept =
    marks-same (layer_of old.upper) (layer_of new.upper) (option_map (below (layer_of old.upper)) m) (λ k. kept.inodes k (λ e. cc))

-- no mark is no path
no-mark : (o : Option Path) (m : Option Path) (q : Path) → o ≡ None → o ≡ Some q → m ≡ Some q
no-mark o m q none is = absurd (false≢true (sym (ap is_some none) ∙ ap is_some is))

-- a file or symbolic link that is made
pub texts-made : (old new : Layers) (p : Path) (c : Content) (a : Attributes) → MakesLeaf old new p c a → KeepsTexts old new None
texts-made old new p c a made = texts-new old new made.number _ None made.inode made.objects (λ q is. no-mark None None q refl is)

-- or copied with its bytes
pub texts-whole : (old new : Layers) (p : Path) (c : Content) (a : Attributes) → CopiesLeaf old new p c None a → KeepsTexts old new None
texts-whole old new p c a leaf = texts-new old new leaf.number _ None leaf.inode leaf.objects (λ q is. no-mark None None q refl is)

-- one that has a name fewer has its mark
less-mark : (o : Option Inode) → mark_of (option_map with_less o) ≡ mark_of o
less-mark None = refl
less-mark (Some i) = refl

pub texts-unnamed : (old new : Layers) (p : Path) (released : Option ℕ) → Unnames old new p released → KeepsTexts old new None
texts-unnamed old new p released u = by (number_of (held (layer_of old.upper) p)) refl
  where
    by : (o : Option ℕ) → number_of (held (layer_of old.upper) p) ≡ o → KeepsTexts old new None
    by None is = texts-kept old new None (subst (KeepsObjects old.upper new.upper) is u.objects)
    by (Some n) is =
        marks-kept old.upper new.upper None n (subst (KeepsObjects old.upper new.upper) is u.objects)
        (λ q there. inl (sym (less-mark (inode_at old.upper n)) ∙ sym (ap mark_of (u.fewer n is)) ∙ there))

-- a file that has bytes of its own, written anew, or not where memory ran out
pub texts-written : (l : Layers) (u new : Tree) (key : ℕ) (now : List ℕ → List ℕ) → l.upper ≡ u → IsSome (own_at u key) → (r : Result (Unit {0}) AllocError) →
    OnOk r ((old : List ℕ) → own_at u key ≡ Some old → SetsBytes (layer_of u) (layer_of new) key (now old)) → OnErr r (SameTree u new) →
    KeepsTexts l (record l { upper = new }) None
texts-written l u new key now is there r sets same = subst (λ (z : Tree). GainsMark (layer_of z) (layer_of new) None) (sym is) (by r sets same)
  where
    by : (x : Result (Unit {0}) AllocError) → OnOk x ((old : List ℕ) → own_at u key ≡ Some old → SetsBytes (layer_of u) (layer_of new) key (now old)) →
        OnErr x (SameTree u new) → GainsMark (layer_of u) (layer_of new) None
    by (Ok x) w tree = let own = some-is (own_at u key) there in marks-filled (layer_of u) (layer_of new) key (now own.0) (w own.0 own.1)
    by (Err e) w tree = marks-same (layer_of u) (layer_of new) None tree.inodes
