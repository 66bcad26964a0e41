use Rattle.std.proofs.Common.{◌≡◌, ap, ◌∙◌, not, nat_eq, length}
use Rattle.merged_lookup.specs.Descent.{without_upper}
use Rattle.merged_lookup.proofs.Looking.{base-places}
use Rattle.merged_lookup.proofs.stack.Stack.is_base.Goals as goal

pub returns : goal.returns
returns c l p is =
    let asked : c.below_upper.result.now ≡ without_upper c.args.self.now.places.items = c.below_upper.ensures ∙ ap without_upper c.places.ensures in
    ap not c.is_empty.ensures ∙ ap (λ z. not (nat_eq (length z) 0)) asked ∙ base-places l.upper l.lowers.items c.args.self.now.places.items p is.places
