use Rattle.watch_table.specs.Subjects.{subject_of}
use Rattle.watch_table.proofs.Hearing.{heard-one}
use Rattle.watch_table.proofs.table.WatchTable.tell.Goals as goal

pub returns-in-On : goal.returns-in-On
returns-in-On g c = heard-one g.R.Rule.shows (subject_of c.args.subject.now) c.args.self.now c.tell_watchers.new.self c.tell_watchers.ensures.hear
