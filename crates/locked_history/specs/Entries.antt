-- The entries that are kept, as the history of the plain machine has them.
use Rattle.std.specs.Prelude.{List, Option, Some, None, map}
use Rattle.plain_model.specs.Runs as runs
use Rattle.locked_history.specs.declared.entry.Entry.{Entry}
use Rattle.locked_history.specs.declared.entry.Deed.{Deed}
use Rattle.locked_history.specs.declared.entry.Deed.TheVariants.{Attached, Called, Detached}

-- what a client did, as the plain machine tells it
abbrev pub told : Deed → runs.Deed
told (Attached tags) = runs.Attached tags.items
told (Called call reply) = runs.Called call reply
told Detached = runs.Detached

abbrev pub entry_of : Entry → runs.Entry
entry_of e = record { client = e.client; number = e.number; deed = told e.deed }

abbrev pub history_of : List Entry → List runs.Entry
history_of es = map entry_of es

-- the entry that a note knows; where it knows none this stands for it
abbrev pub no_entry : Entry
no_entry = record { client = 0; number = 0; deed = Detached }

abbrev pub entry_in : Option Entry → Entry
entry_in None = no_entry
entry_in (Some e) = e
