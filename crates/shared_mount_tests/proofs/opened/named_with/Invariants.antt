use Rattle.overlay_core.specs.LegalHistories.{opening_of}
use Rattle.locked_history.specs.Names.{blank_cells, blank_core, blank_ledger, blank_parts}
use Rattle.shared_mount_tests.proofs.opened.named_with.Given as goal

-- the mount that was just made
abbrev pub ghosts-tries-N-Ledger : goal.ghosts-tries-N-Ledger
ghosts-tries-N-Ledger g a = record { name = blank_ledger a.blank; parts = blank_parts a.blank }

abbrev pub ghosts-tries-N-MountName : goal.ghosts-tries-N-MountName
ghosts-tries-N-MountName g a = record { cells = blank_cells a.blank; opening = opening_of (blank_core a.blank) }
