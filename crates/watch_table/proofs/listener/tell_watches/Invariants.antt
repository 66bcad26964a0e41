use Rattle.std.proofs.Common.{map, flat_map, take}
use Rattle.plain_model.specs.Watching.{Puts}
use Rattle.watch_table.specs.Listening.{asked_of, IsEventOf}
use Rattle.watch_table.specs.Subjects.{subject_of}
use Rattle.watch_table.proofs.listener.tell_watches.Given as goal

abbrev pub invariant-loop-watch : goal.invariant-loop-watch
invariant-loop-watch g l =
    Puts g.R.Rule.shows (flat_map (asked_of l.client (map (λ h. h.tag) l.hooks) (subject_of l.subject))
    (take l.watch-index l.watches)) l.fn.queue l.queue
    × IsEventOf (subject_of l.subject) l.event
