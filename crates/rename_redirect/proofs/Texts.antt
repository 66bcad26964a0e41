-- Which path the mark of a file holds that moves, or gets a further name.
use Rattle.std.proofs.Common.{◌≡◌, ℕ, Bool, ◌&&◌, Option, None, Some, refl, sym, ap, ◌∙◌, subst, inl, inr, is_some}
use Rattle.std.proofs.lemmas.Bool.{false≢true}
use Rattle.std.specs.Prelude.{option_map, OnErr, OnOk, Result, Ok, Err}
use Rattle.std.specs.declared.alloc.AllocError.{AllocError}
use Rattle.plain_model.specs.Layers as layers
use Rattle.plain_model.specs.Layers.{Path, Inode, Layer, Named, Directory, Whiteout, held, below, is_file}
use Rattle.mount_laws.specs.Linking.{AddsName}
use Rattle.layer_tree.specs.Tree.{Tree, layer_of, new_inode, with_less}
use Rattle.layer_tree.specs.declared.node.Object.{Object}
use Rattle.merged_lookup.specs.declared.layers.Layers.{Layers}
use Rattle.copy_up.specs.Showing.{ChangesNoSight, PassesSame, Stays}
use Rattle.copy_up.specs.Texts.{GainsMark, KeepsTexts}
use Rattle.copy_up.proofs.Texts.{mark_of, marks-but, marks-same, marks-then, copy-told}
use Rattle.rename_redirect.specs.Linking.{CopiesInode, CopiesName, GainsBoth}
use Rattle.rename_redirect.specs.Routes.{MovesEntry, MovesNew}

-- where no mark comes, none but that of a path comes
pub texts-wider : (old new : Layers) (m : Option Path) → KeepsTexts old new None → KeepsTexts old new m
texts-wider old new m none k q is = elim (none k q is) [
  | inl h ↦ inl h
  | inr h ↦ absurd (false≢true (ap is_some h))
]

-- parents of two paths that are gained bring no mark
pub texts-both : (old new : Layers) (p q : Path) (m : Option Path) → GainsBoth old new p q → KeepsTexts old new m
texts-both old new p q m b =
    marks-same (layer_of old.upper) (layer_of new.upper) (option_map (below (layer_of old.upper)) m)
    (λ k. b.second.objects.inodes k (λ e. cc) ∙ b.first.objects.inodes k (λ e. cc))

-- a further name brings none but that of its path, whether it was given or memory ran out
pub texts-given :
    (r : Result ℕ AllocError) (old new : Layers) (p q : Path) →
    OnOk r (KeepsTexts old new (Some p)) →
    OnErr r (ChangesNoSight old new (GainsBoth old new p q)) → KeepsTexts old new (Some p)
texts-given (Ok key) old new p q given out = given
texts-given (Err e) old new p q given out = texts-both old new p q (Some p) out.beneath

-- a change after parents were placed, by the spelling that was before
pub texts-since : (a b c : Layers) (p : Path) → PassesSame (layer_of a.upper) (layer_of b.upper) → Stays a b → KeepsTexts b c (Some p) → KeepsTexts a c (Some p)
texts-since a b c p passes stays then =
    let U = layer_of a.upper in
    let V = layer_of b.upper in
    let W = layer_of c.upper in
    marks-then U V W (Some (below U p)) (marks-same U V (Some (below U p)) stays.inodes)
    (subst (λ (s : Path). GainsMark V W (Some s)) (passes.spelling p) then)

-- a further name brings none
pub marks-named : (U V : Layer) (p q : Path) (m : Option Path) → AddsName U V p q → GainsMark U V m
marks-named U V p q m a = marks-but U V m a.number a.inodes (λ x is. inl (ap mark_of a.before ∙ sym (ap mark_of a.now) ∙ is))

-- a copy with a further name has the mark that the copy has
pub marks-copied : (U V : Layer) (p q : Path) (i : Inode) (m : Option Path) → CopiesName U V p q i → ((x : Path) → i.mark ≡ Some x → m ≡ Some x) → GainsMark U V m
marks-copied U V p q i m c told =
    marks-then U c.copied V m
    (marks-but U c.copied m c.number c.leaf.inodes (λ x is. inr (told x (sym (ap mark_of c.leaf.inode) ∙ is))))
    (marks-named c.copied V p q m c.further)

-- with a name less an inode has its mark
less-mark : (o : Option Inode) → mark_of (option_map with_less o) ≡ mark_of o
less-mark None = refl
less-mark (Some i) = refl

-- an entry that moves brings none
module _ (t u : Tree) (p q : Path) (left : Option layers.Object) (released : Option ℕ) (m : Option Path) (e : MovesEntry t u p q left released) where
  by-target : (o : Option layers.Object) → held (layer_of t) q ≡ o → GainsMark (layer_of t) (layer_of u) m
  by-target None is = marks-same (layer_of t) (layer_of u) m (λ k. e.inodes k (λ h. let no : ◌≡◌ {A = Option layers.Object} None (Some (Named k)) = sym is ∙ h in cc))
  by-target (Some Whiteout) is = marks-same (layer_of t) (layer_of u) m (λ k. e.inodes k (λ h. let no : Some Whiteout ≡ Some (Named k) = sym is ∙ h in cc))
  by-target (Some (Directory j a opaque r)) is = marks-same (layer_of t) (layer_of u) m (λ k. e.inodes k (λ h. let no : Some (Directory j a opaque r) ≡ Some (Named k) = sym is ∙ h in cc))
  by-target (Some (Named j)) is =
      marks-but (layer_of t) (layer_of u) m j
      (λ k off. e.inodes k (λ h. off (let two : Some (Named j) ≡ Some (Named k) = sym is ∙ h in cc)))
      (λ x there. inl (sym (less-mark ((layer_of t).inodes j)) ∙ sym (ap mark_of (e.fewer j is)) ∙ there))

  pub marks-moved : GainsMark (layer_of t) (layer_of u) m
  marks-moved = by-target (held (layer_of t) q) refl

-- a new object that moves has its own
pub marks-new : (t u : Tree) (p q : Path) (o : Object) (left : Option layers.Object) (key : ℕ) (released : Option ℕ) (m : Option Path) →
    MovesNew t u p q o left key released → ((x : Path) → mark_of (new_inode o) ≡ Some x → m ≡ Some x) → GainsMark (layer_of t) (layer_of u) m
marks-new t u p q o left key released m new told =
    marks-then (layer_of t) (layer_of new.mid) (layer_of u) m
    (marks-but (layer_of t) (layer_of new.mid) m key new.inodes (λ x is. inr (told x (sym (ap mark_of new.inode) ∙ is))))
    (marks-moved new.mid u p q left released m new.moves)

-- the mark of a new copy is the spelling of the path of which it is
pub copy-spelled : (l : Layers) (low : Bool) (p : Path) (i : Inode) (o : Object) → CopiesInode l low p i o → (x : Path) → mark_of (new_inode o) ≡ Some x → Some (below (layer_of l.upper) p) ≡ Some x
copy-spelled l low p i o made x is =
    copy-told (low && is_file i.content) (below (layer_of l.upper) p) x (sym made.mark ∙ sym (ap mark_of made.is) ∙ is)
