use Rattle.std.proofs.Common.{◌∙◌, ap, is_some}
use Rattle.merged_lookup.specs.Merged.{trees}
use Rattle.merged_lookup.specs.Descent.{first, without_upper}
use Rattle.merged_lookup.proofs.Looking.{is_some-shown, under-some}
use Rattle.merged_lookup.proofs.layers.Layers.lowers_show.Goals as goal

pub returns : goal.returns
returns c = λ p is.
    c.is_some.ensures
    ∙ is_some-shown c.topmost.result
    ∙ ap is_some c.topmost.ensures.place
    ∙ ap (λ z. is_some (first (trees c.args.self.now) z c.args.name.now)) (c.below_upper.ensures ∙ ap without_upper c.places.ensures)
    ∙ under-some c.args.self.now.upper c.args.self.now.lowers.items c.args.parent.now.places.items p c.args.name.now is.places
