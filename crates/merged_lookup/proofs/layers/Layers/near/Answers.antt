use Rattle.std.proofs.Common.{◌≡◌, ◌<◌, ℕ, List, Option, length, reverse, subst, arith}
use Rattle.plain_model.specs.Layers.{Path}
use Rattle.ov_base.specs.declared.place.Place.{Place}
use Rattle.merged_lookup.specs.declared.layers.Layers.{Layers}
use Rattle.merged_lookup.specs.Kept.{HandsDown}
use Rattle.merged_lookup.specs.Merged.{layers_of, lowers_of, places_at}
use Rattle.merged_lookup.proofs.Keeping.{few-below, stack-over, kept-way}
use Rattle.merged_lookup.proofs.layers.Layers.near.Goals as goal

pub places_over-places-requires : goal.places_over-places-requires
places_over-places-requires c =
    let l : Layers = c.args.self.now in
    let p : Path = reverse c.args.names.now in
    let below : List Place = c.in_ok-directory.directory.now.items in
    record { room = omega (arith, few-below l p below c.in_ok-directory.ensures) }

pub returns-clause-way : goal.returns-clause-way
returns-clause-way c =
    let l : Layers = c.args.self.now in
    let p : Path = reverse c.args.names.now in
    let dir : Option ℕ = c.in_ok-dir.dir in
    let below : List Place = c.in_ok-directory.directory.now.items in
    let down : HandsDown l.upper p dir =
    subst (λ t. HandsDown t p dir) c.upper.ensures c.in_ok-dir.ensures in
    let places : List Place = c.places_over-places.result.items in
    let some : 0 < length places = grind arith in
    kept-way l p places (stack-over l p dir below places down c.in_ok-directory.ensures
    c.places_over-places.ensures) some

pub returns-clause-reached : goal.returns-clause-reached
returns-clause-reached c =
    let l : Layers = c.args.self.now in
    let p : Path = reverse c.args.names.now in
    let dir : Option ℕ = c.in_ok-dir.dir in
    let below : List Place = c.in_ok-directory.directory.now.items in
    let down : HandsDown l.upper p dir =
    subst (λ t. HandsDown t p dir) c.upper.ensures c.in_ok-dir.ensures in
    stack-over l p dir below c.places_over-places.result.items down c.in_ok-directory.ensures
    c.places_over-places.ensures
