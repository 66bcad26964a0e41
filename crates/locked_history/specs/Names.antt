-- What a blank mount has that a name of it names.
use Rattle.std.specs.Prelude.{◌≡◌, ℕ, List, map}
use Rattle.once_cell.specs.Once.{cell_name}
use Rattle.overlay_core.specs.LegalHistories.{Opening, opening_of}
use Rattle.overlay_core.specs.declared.mounted.Core.{Core}
use Rattle.locked_history.specs.declared.blank.Blank.{Blank}
use Rattle.watch_table.specs.declared.hook.Callback.{Ghosts as Callback}
use Rattle.watch_table.specs.declared.hook.Rule.{Ghosts as Rule}

module _ {F G : Type 0} {asks : Callback F} {rule : Rule G} where
  -- its core
  abbrev pub blank_core : Blank F G asks rule → Core F G asks rule
  blank_core blank = blank.core

  -- the cells of its row
  abbrev pub blank_cells : Blank F G asks rule → List ℕ
  blank_cells blank = map cell_name blank.row.items

  -- its ledger, and in how many parts that comes
  abbrev pub blank_ledger : Blank F G asks rule → ℕ
  blank_ledger blank = blank.tokens.name

  abbrev pub blank_parts : Blank F G asks rule → ℕ
  blank_parts blank = blank.tokens.parts

-- these cells, this ledger and this opening are the blank's
pub record IsNamed {F G : Type 0} {asks : Callback F} {rule : Rule G} (row : List ℕ) (ledger count : ℕ) (mounted : Opening) (blank : Blank F G asks rule) : Type 0 where
  pub cells : blank_cells blank ≡ row
  pub name : blank_ledger blank ≡ ledger
  pub parts : blank_parts blank ≡ count
  pub opening : opening_of (blank_core blank) ≡ mounted
