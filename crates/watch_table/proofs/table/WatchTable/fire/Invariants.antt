use Rattle.std.proofs.Common.{take}
use Rattle.plain_model.specs.Watching.{AllHear}
use Rattle.watch_table.specs.Subjects.{subjects_of}
use Rattle.watch_table.proofs.table.WatchTable.fire.Given as goal

abbrev pub invariant-loop-subject : goal.invariant-loop-subject
invariant-loop-subject g l = AllHear g.R.Rule.shows (subjects_of (take l.subject-index l.subjects)) l.fn.self l.self
