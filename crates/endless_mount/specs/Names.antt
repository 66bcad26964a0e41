-- What a blank mount has that a name of it names.
use Rattle.std.specs.Prelude.{◌≡◌}
use Rattle.logbook.specs.Pages.{Book}
use Rattle.overlay_core.specs.LegalHistories.{Opening, opening_of}
use Rattle.overlay_core.specs.declared.mounted.Core.{Core}
use Rattle.endless_mount.specs.declared.blank.Blank.{Blank}
use Rattle.endless_mount.specs.declared.book.Opened.{Opened}
use Rattle.watch_table.specs.declared.hook.Callback.{Ghosts as Callback}
use Rattle.watch_table.specs.declared.hook.Rule.{Ghosts as Rule}

-- which book was opened
abbrev pub opened_book : Opened → Book
opened_book opened = opened.seen.book

module _ {F G : Type 0} {asks : Callback F} {rule : Rule G} where
  -- its core
  abbrev pub blank_core : Blank F G asks rule → Core F G asks rule
  blank_core blank = blank.core

  -- its book
  abbrev pub blank_book : Blank F G asks rule → Book
  blank_book blank = opened_book blank.opened

-- this book and this opening are the blank's
pub record IsNamed {F G : Type 0} {asks : Callback F} {rule : Rule G} (named : Book) (mounted : Opening) (blank : Blank F G asks rule) : Type 0 where
  pub book : blank_book blank ≡ named
  pub opening : opening_of (blank_core blank) ≡ mounted
