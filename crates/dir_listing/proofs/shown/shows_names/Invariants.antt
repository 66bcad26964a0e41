use Rattle.std.proofs.Common.{◌≡◌, List, ℕ, take, true, false, is_some}
use Rattle.std.specs.List.{list_any}
use Rattle.merged_lookup.specs.Merged.{trees}
use Rattle.merged_lookup.specs.Descent.{first}
use Rattle.dir_listing.specs.Bound.{is_bound}
use Rattle.dir_listing.proofs.shown.shows_names.Given as goal

abbrev pub invariant-loop-place : goal.invariant-loop-place
invariant-loop-place l =
    (n : List ℕ) → list_any (is_bound (trees l.layers) n) (take l.place-index l.place-items) ≡ true → is_some (first (trees l.layers) l.stack.places.items n) ≡ false
