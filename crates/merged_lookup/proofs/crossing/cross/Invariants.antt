use Rattle.std.proofs.Common.{◌≡◌, ◌+◌, length}
use Rattle.merged_lookup.specs.Spelling.{names_of, IsRow}
use Rattle.merged_lookup.proofs.Passing.{crossed}
use Rattle.merged_lookup.proofs.crossing.cross.Given as goal

abbrev pub invariant-names : goal.invariant-names
invariant-names l =
    record {
      same : crossed l.layer l.crossing.dir l.crossing.cut (names_of l.crossing.next) (names_of l.rest) ≡ crossed l.layer l.initial.crossing.dir l.initial.crossing.cut (names_of l.initial.crossing.next) (names_of l.spelling);
      first : l.rest.first ≡ l.spelling.first;
      next : l.crossing.next.first + 1 ≡ l.spelling.first;
      rest_row : IsRow l.rest;
      next_row : IsRow l.crossing.next;
    }

abbrev pub decreases-names : goal.decreases-names
decreases-names l = length (names_of l.rest)
