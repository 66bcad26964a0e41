use Rattle.std.proofs.Common.{◌≡◌, ℕ, List, refl, sym, ◌∙◌, subst, get_or, below_more, arith}
use Rattle.std.proofs.lemmas.Bool.{false≢true}
use Rattle.std.proofs.lemmas.List.{get_or_default}
use Rattle.layer_tree.specs.Tree.{HasMark, Tree, layer_of}
use Rattle.overlay_core.proofs.Marks.{any-layer, any-tree}
use Rattle.overlay_core.proofs.mount_faults.is_marked_below.Goals as goal

pub returns-then-has_marks : goal.returns-then-has_marks
returns-then-has_marks c = (
  λ h. any-layer HasMark c.args.lowers.now c.loop-layer.layer-index c.layer-item.result c.loop-layer-test.true (sym c.layer-item.is) (c.has_marks.ensures.0 c.if-has_marks.true),
  λ h. refl,
)

pub loop-layer-preserved : goal.loop-layer-preserved
loop-layer-preserved c =
    let ts : List Tree = c.args.lowers.now in
    let i : ℕ = c.loop-layer.layer-index in
    let here : Tree = c.layer-item.result in
    below_more (λ k. (t : Tree) → get_or ts k t ≡ t → HasMark (layer_of t) → ⊥) i c.loop-layer.invariant
    (λ t is marked.
    let same : t ≡ here = sym is ∙ get_or_default ts i t here c.loop-layer-test.true ∙ sym c.layer-item.is in
    false≢true (sym c.if-has_marks.false ∙ c.has_marks.ensures.1 (subst (λ t. HasMark (layer_of t)) same marked)))

pub returns : goal.returns
returns c = (
  λ h. absurd (false≢true h),
  λ h.
      let a = any-tree HasMark c.args.lowers.now h in
      absurd (c.loop-layer.invariant a.0 (omega (arith, a.2, c.loop-layer-test.false)) a.1 a.3 a.4),
)
