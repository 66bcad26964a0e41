use Rattle.overlay_core.specs.LegalHistories.{opening_of}
use Rattle.locked_history.specs.Names.{blank_cells, blank_core, blank_ledger, blank_parts}
use Rattle.endless_mount.specs.Names.{blank_book}
use Rattle.endless_mount.specs.Names.{blank_core as endless_core}
use Rattle.side_by_side.proofs.shared.goes_on.Given as goal

-- the mounts that were just made
abbrev pub ghosts-recorded_play-N-Ledger : goal.ghosts-recorded_play-N-Ledger
ghosts-recorded_play-N-Ledger g a = record { name = blank_ledger a.blank; parts = blank_parts a.blank }

abbrev pub ghosts-recorded_play-N-MountName : goal.ghosts-recorded_play-N-MountName
ghosts-recorded_play-N-MountName g a = record { cells = blank_cells a.blank; opening = opening_of (blank_core a.blank) }

abbrev pub ghosts-endless_play : goal.ghosts-endless_play
ghosts-endless_play g a = record { book = blank_book a.blank; opening = opening_of (endless_core a.blank) }
