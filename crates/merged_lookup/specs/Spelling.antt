-- The names that are to come of a spelling, root first.
use Rattle.std.specs.Prelude.{◌≡◌, ◌≤◌, List, drop, length}
use Rattle.plain_model.specs.Layers.{Name}
use Rattle.merged_lookup.specs.declared.spelling.Spelling.{Spelling}
use Rattle.merged_lookup.specs.Cursors.{spelled}

abbrev pub names_of : Spelling → List Name
names_of s = spelled (drop s.first s.cursors)

-- the row of cursors begins within its array
pub record IsRow (s : Spelling) : Type 0 where
  pub within : s.first ≤ 18
  pub sized : length s.cursors ≡ 18
