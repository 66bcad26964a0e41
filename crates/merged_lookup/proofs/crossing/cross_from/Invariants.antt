use Rattle.std.proofs.Common.{◌≡◌, ◌+◌, ◌≤◌, ◌++◌, length, reverse}
use Rattle.merged_lookup.specs.Numbered.{row}
use Rattle.merged_lookup.specs.Descent.{places_from}
use Rattle.merged_lookup.specs.Spelling.{names_of, IsRow}
use Rattle.merged_lookup.proofs.crossing.cross_from.Given as goal

abbrev pub invariant-loop-index : goal.invariant-loop-index
invariant-loop-index l =
    record {
      so_far : l.places.items ++ places_from l.index (row l.layers) (reverse (names_of l.spelling)) ≡ places_from l.first (row l.layers) (reverse l.names);
      few : length l.places.items + l.first ≤ l.index;
      room : l.spelling.first + l.index ≡ 17 + l.first;
      row : IsRow l.spelling;
    }
