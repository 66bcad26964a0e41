use Rattle.overlay_core.specs.LegalHistories.{opening_of}
use Rattle.locked_history.specs.Names.{blank_cells, blank_core, blank_ledger, blank_parts}
use Rattle.shared_mount_tests.proofs.one_worker.served_named.Given as goal

-- the mount that was just made
abbrev pub ghosts-served-N-Ledger : goal.ghosts-served-N-Ledger
ghosts-served-N-Ledger g a =
    record { name = blank_ledger a.blank; parts = blank_parts a.blank }

abbrev pub ghosts-served-N-MountName : goal.ghosts-served-N-MountName
ghosts-served-N-MountName g a =
    record { cells = blank_cells a.blank; opening = opening_of (blank_core a.blank) }
