use Rattle.std.proofs.Common.{◌≡◌, ◌≢◌, ◌-◌, ◌<◌, ◌≤◌, [], length, reverse, take}
use Rattle.merged_lookup.specs.Merged.{trees}
use Rattle.merged_lookup.specs.Descent.{places_from}
use Rattle.merged_lookup.proofs.layers.Layers.directories_on.Given as goal

abbrev pub invariant-loop-beyond : goal.invariant-loop-beyond
invariant-loop-beyond l =
    record {
      apart : l.directories < l.beyond;
      within : l.beyond ≤ length l.names;
      directory : places_from 0 (trees l.self) (reverse (take l.directories l.names)) ≢ [];
      nowhere : places_from 0 (trees l.self) (reverse (take l.beyond l.names)) ≡ [];
    }

abbrev pub decreases-loop-beyond : goal.decreases-loop-beyond
decreases-loop-beyond l = l.beyond - l.directories
