use Rattle.std.proofs.Common.{◌≡◌, ◌∷◌, ℕ, true, refl, sym, ap, ◌∙◌, inl, inr}
use Rattle.std.proofs.lemmas.Bool.{false≢true}
use Rattle.slab.specs.Slab.{get}
use Rattle.slab.proofs.SlabLemmas.{Contains-cons, Contains-cons_cases, Contains-entries}
use Rattle.layer_tree.specs.Change.{is_marked_node}
use Rattle.layer_tree.proofs.Marked.{marked_layer, marked_node, contains_first}
use Rattle.layer_tree.proofs.file_fill.has_marked.Goals as goal

pub loop-node-init : goal.loop-node-init
loop-node-init c =
    let left = c.into_iter-node-iterator.ensures.into_iter_gives ∙ c.iter-node-items.ensures.rest in (
      tt,
      tt,
      λ key n found marked. rw left ((Contains-entries c.args.nodes.now key n).1 found),
      λ key n there. (Contains-entries c.args.nodes.now key n).0 (rw left at there),
    )

pub loop-node-preserved : goal.loop-node-preserved
loop-node-preserved c =
    let at = c.in-Some.ensures.steps in (
      tt,
      tt,
      λ key n found marked. elim (Contains-cons_cases _ _ _ (rw at at (c.loop-node.invariant.2 key n found marked))) [
        | inl same ↦ absurd (false≢true (sym c.if-is_marked.false ∙ c.is_marked.ensures ∙ ap (λ e. is_marked_node e.1) same ∙ marked))
        | inr rest ↦ rest
      ],
      λ key n there. c.loop-node.invariant.3 key n (rw at (Contains-cons _ _ _ there)),
    )

pub returns-then-is_marked : goal.returns-then-is_marked
returns-then-is_marked c =
    let at = c.in-Some.ensures.steps in (
      λ h. marked_layer c.args.nodes.now c.in-Some.field-0-0 c.in-Some.node.now
          (c.loop-node.invariant.3 c.in-Some.field-0-0 c.in-Some.node.now (rw at (contains_first (c.in-Some.field-0-0, c.in-Some.node.now) c.next.new.self)))
          (sym c.is_marked.ensures ∙ c.if-is_marked.true),
      λ h. refl,
    )
