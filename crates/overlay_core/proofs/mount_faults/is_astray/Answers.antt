use Rattle.std.proofs.Common.{refl, sym, ap, map, ◌∙◌, inl, inr}
use Rattle.std.proofs.lemmas.Bool.{false≢true}
use Rattle.slab.proofs.SlabLemmas.{Contains-cons, Contains-cons_cases, Contains-entries}
use Rattle.layer_tree.specs.Tree.{layer_of}
use Rattle.layer_tree.proofs.Marked.{contains_first}
use Rattle.overlay_core.specs.Marks.{goes_astray}
use Rattle.overlay_core.proofs.Marks.{astray-layer}
use Rattle.overlay_core.proofs.mount_faults.is_astray.Goals as goal

pub loop-node-init : goal.loop-node-init
loop-node-init c =
    let left = c.into_iter-node-iterator.ensures.into_iter_gives ∙ c.nodes-node-items.ensures in (
      tt,
      tt,
      λ key n found astray. rw left ((Contains-entries c.args.upper.now key n).1 found),
      λ key n there. (Contains-entries c.args.upper.now key n).0 (rw left at there),
    )

pub loop-node-preserved : goal.loop-node-preserved
loop-node-preserved c =
    let at = c.in-Some.ensures.steps in (
      tt,
      tt,
      λ key n found astray. elim (Contains-cons_cases _ _ _ (rw at at (c.loop-node.invariant.2 key n found astray))) [
        | inl same ↦ absurd (false≢true (sym c.if-leads_astray.false ∙ c.leads_astray.ensures ∙ ap (λ e. goes_astray (map layer_of c.args.lowers.now) e.1) same ∙ astray))
        | inr rest ↦ rest
      ],
      λ key n there. c.loop-node.invariant.3 key n (rw at (Contains-cons _ _ _ there)),
    )

pub returns-then-leads_astray : goal.returns-then-leads_astray
returns-then-leads_astray c =
    let at = c.in-Some.ensures.steps in (
      λ h. astray-layer (map layer_of c.args.lowers.now) c.args.upper.now c.in-Some.field-0-0 c.in-Some.node.now
          (c.loop-node.invariant.3 c.in-Some.field-0-0 c.in-Some.node.now (rw at (contains_first (c.in-Some.field-0-0, c.in-Some.node.now) c.next.new.self)))
          (sym c.leads_astray.ensures ∙ c.if-leads_astray.true),
      λ h. refl,
    )
