use Rattle.std.proofs.Common.{◌∷◌, sym, ap, ◌∙◌, is_some}
use Rattle.merged_lookup.specs.Merged.{trees}
use Rattle.merged_lookup.specs.Descent.{first}
use Rattle.merged_lookup.proofs.Filled.{same-some}
use Rattle.merged_lookup.proofs.Looking.{is_some-shown, shows-some}
use Rattle.merged_lookup.proofs.layers.Layers.shows.Goals as goal

pub returns-clause-shown : goal.returns-clause-shown
returns-clause-shown c = λ p is.
    c.is_some.ensures ∙ is_some-shown c.topmost.result ∙ ap is_some c.topmost.ensures.place ∙ shows-some (trees c.args.self.now) c.places.result.now p c.args.name.now (c.places.ensures ∙ is.places) ∙ sym (same-some c.args.self.now (c.args.name.now ∷ p))

pub returns-clause-by_places : goal.returns-clause-by_places
returns-clause-by_places c =
    c.is_some.ensures ∙ is_some-shown c.topmost.result ∙ ap is_some c.topmost.ensures.place ∙ ap (λ z. is_some (first (trees c.args.self.now) z c.args.name.now)) c.places.ensures
