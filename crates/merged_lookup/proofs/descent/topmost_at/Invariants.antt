use Rattle.std.proofs.Common.{◌≡◌, drop}
use Rattle.merged_lookup.specs.Numbered.{row}
use Rattle.merged_lookup.specs.Descent as down
use Rattle.merged_lookup.proofs.descent.topmost_at.Given as goal

-- the places so far have nothing at the name
abbrev pub invariant-loop-place : goal.invariant-loop-place
invariant-loop-place l =
    record {
      first : down.first (row l.layers) l.places l.name ≡ down.first (row l.layers) (drop l.place-index l.places) l.name;
      descend : down.descend (row l.layers) l.places l.name ≡ down.descend (row l.layers) (drop l.place-index l.places) l.name;
    }
