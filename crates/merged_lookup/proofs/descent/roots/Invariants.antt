use Rattle.std.proofs.Common.{◌≡◌, ◌+◌, ◌≤◌, [], ◌++◌, length}
use Rattle.merged_lookup.specs.Merged.{trees}
use Rattle.merged_lookup.specs.Descent.{places_from}
use Rattle.merged_lookup.proofs.descent.roots.Given as goal

abbrev pub invariant-loop-layer : goal.invariant-loop-layer
invariant-loop-layer l =
    (l.places.items ++ places_from l.layer (trees l.layers) [] ≡ places_from l.first (trees l.layers) [])
    × (length l.places.items + l.first ≤ l.layer)
