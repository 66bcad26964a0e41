use Rattle.std.proofs.Common.{◌≡◌, ◌≤◌, ◌++◌, length, take, drop}
use Rattle.merged_lookup.specs.Merged.{trees}
use Rattle.merged_lookup.specs.Descent as down
use Rattle.merged_lookup.proofs.descent.enter.Given as goal

abbrev pub invariant-loop-index : goal.invariant-loop-index
invariant-loop-index l =
    record {
      kept : l.kept ≤ l.index;
      unchanged : l.index ≡ 0 → l.places.items ≡ l.fn.places.items;
      count : length l.places.items ≡ l.count;
      reached : down.descend (trees l.layers) l.fn.places.items l.name ≡ take l.kept l.places.items ++ down.descend (trees l.layers) (drop l.index l.places.items) l.asked;
      first : l.kept ≡ 0 → (l.asked ≡ l.name) × (down.first (trees l.layers) l.fn.places.items l.name ≡ down.first (trees l.layers) (drop l.index l.places.items) l.name);
    }
