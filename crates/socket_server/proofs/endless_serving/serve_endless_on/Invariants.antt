use Rattle.overlay_core.specs.LegalHistories.{opening_of}
use Rattle.endless_mount.specs.Names.{blank_book, blank_core}
use Rattle.socket_server.proofs.endless_serving.serve_endless_on.Given as goal

-- the mount that was just made
abbrev pub ghosts-serve_endless_named : goal.ghosts-serve_endless_named
ghosts-serve_endless_named g a =
    record { book = blank_book a.blank; opening = opening_of (blank_core a.blank) }
