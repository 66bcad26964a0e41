use Rattle.overlay_core.specs.LegalHistories.{opening_of}
use Rattle.endless_mount.specs.Names.{blank_book, blank_core}
use Rattle.shared_mount_tests.proofs.endless.named.Given as goal

-- the mount that was just made
abbrev pub ghosts-tries : goal.ghosts-tries
ghosts-tries g a = record { book = blank_book a.blank; opening = opening_of (blank_core a.blank) }
