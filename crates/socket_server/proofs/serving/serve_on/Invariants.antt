use Rattle.overlay_core.specs.LegalHistories.{opening_of}
use Rattle.locked_history.specs.Names.{blank_cells, blank_core, blank_ledger, blank_parts}
use Rattle.socket_server.proofs.serving.serve_on.Given as goal

-- the mount that was just made
abbrev pub ghosts-serve_named-N-Ledger : goal.ghosts-serve_named-N-Ledger
ghosts-serve_named-N-Ledger g a =
    record { name = blank_ledger a.blank; parts = blank_parts a.blank }

abbrev pub ghosts-serve_named-N-MountName : goal.ghosts-serve_named-N-MountName
ghosts-serve_named-N-MountName g a =
    record { cells = blank_cells a.blank; opening = opening_of (blank_core a.blank) }
