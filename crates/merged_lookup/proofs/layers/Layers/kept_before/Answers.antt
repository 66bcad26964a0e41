use Rattle.std.proofs.Common.{◌∙◌, ◌∷◌, ap, map, reverse, subst, sym}
use Rattle.layer_tree.specs.Tree.{layer_of}
use Rattle.merged_lookup.specs.declared.stacked.Stacked.{Stacked}
use Rattle.merged_lookup.specs.Kept.{IsKept}
use Rattle.merged_lookup.proofs.Keeping.{kept-second}
use Rattle.merged_lookup.proofs.Trails.{names-decide}
use Rattle.merged_lookup.proofs.layers.Layers.kept_before.Goals as goal

pub returns-then-eq : goal.returns-then-eq
returns-then-eq c =
    let same = (names-decide c.as_slice.result.now c.args.names.now).0 (sym c.eq.ensures ∙ c.if-eq.true) in
    subst (λ (s : Stacked). IsKept (map layer_of s.lowers.items) (reverse c.args.names.now) c.in_ok-key.kept.now) c.self.view_is
    (kept-second _ c.self.inside.kept.entries _ c.in_ok-key.key.now c.in_ok-key.kept.now _ c.args.names.now
    (sym c.iter-entries.ensures.rest ∙ c.in_ok-next.ensures.steps ∙ ap (λ es. (c.in_ok-next.field-0.0.now, c.in_ok-next.field-0.1.now) ∷ es) c.in_ok-key.ensures.steps)
    (sym c.as_slice.ensures.value ∙ same) c.self.invariant)
