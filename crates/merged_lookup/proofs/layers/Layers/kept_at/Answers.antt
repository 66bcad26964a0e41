use Rattle.std.proofs.Common.{◌∙◌, map, reverse, subst, sym}
use Rattle.layer_tree.specs.Tree.{layer_of}
use Rattle.merged_lookup.specs.declared.stacked.Stacked.{Stacked}
use Rattle.merged_lookup.specs.Kept.{IsKept}
use Rattle.merged_lookup.proofs.Keeping.{kept-first}
use Rattle.merged_lookup.proofs.Trails.{names-decide}
use Rattle.merged_lookup.proofs.layers.Layers.kept_at.Goals as goal

pub returns-then-eq : goal.returns-then-eq
returns-then-eq c =
    let same = (names-decide c.as_slice.result.now c.args.names.now).0 (sym c.eq.ensures ∙ c.if-eq.true) in
    subst (λ (s : Stacked). IsKept (map layer_of s.lowers.items) (reverse c.args.names.now) c.in_ok-key.kept.now) c.self.view_is
    (kept-first _ c.self.inside.kept.entries c.in_ok-key.key.now c.in_ok-key.kept.now c.args.names.now c.in_ok-key.ensures (sym c.as_slice.ensures.value ∙ same) c.self.invariant)
