use Rattle.std.proofs.Common.{is_some, sym, ap, ◌∙◌}
use Rattle.std.proofs.lemmas.List.{take_all}
use Rattle.std.specs.List.{list_any}
use Rattle.merged_lookup.specs.Merged.{trees}
use Rattle.merged_lookup.specs.Descent.{first}
use Rattle.dir_listing.specs.Bound.{is_bound}
use Rattle.dir_listing.proofs.Showing.{no-name-shown, some-name-shown, unshown-more}
use Rattle.dir_listing.proofs.shown.shows_names.Goals as goal

pub returns-then-shows_one_of : goal.returns-then-shows_one_of
returns-then-shows_one_of c = λ p is. some-name-shown c.args.layers.now c.args.stack.now.places.items p is.places c.names_at.result.now (sym c.shows_one_of.ensures ∙ c.if-shows_one_of.true)

pub loop-place-preserved : goal.loop-place-preserved
loop-place-preserved c =
    unshown-more (λ n. is_some (first (trees c.args.layers.now) c.args.stack.now.places.items n)) (trees c.args.layers.now) c.places-place-items.result.now c.loop-place.place-index (record { layer = 0; key = 0 }) c.loop-place-test.true c.loop-place.invariant c.names_at.result.now c.names_at.ensures
    (sym c.shows_one_of.ensures ∙ c.if-shows_one_of.false)

pub returns : goal.returns
returns c = λ p is.
    let whole = take_all c.loop-place.place-index c.places-place-items.result.now c.loop-place-test.false ∙ c.places-place-items.ensures in
    no-name-shown c.args.layers.now c.args.stack.now.places.items p is.places (λ n h. c.loop-place.invariant n (ap (list_any (is_bound (trees c.args.layers.now) n)) whole ∙ h))
