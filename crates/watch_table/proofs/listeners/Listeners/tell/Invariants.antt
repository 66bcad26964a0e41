use Rattle.std.proofs.Common.{◌≡◌, take, false}
use Rattle.watch_table.specs.Clients.{AreTold, KeepWatches}
use Rattle.watch_table.specs.Listening.{IsEventOf}
use Rattle.watch_table.specs.Subjects.{subject_of}
use Rattle.watch_table.proofs.listeners.Listeners.tell.Given as goal

abbrev pub invariant-loop-client : goal.invariant-loop-client
invariant-loop-client g l =
    AreTold g.R.Rule.shows (subject_of l.subject) (take l.client-index l.clients) l.fn.self l.self
    × (l.is_ended ≡ false → KeepWatches l.fn.self l.self)
    × IsEventOf (subject_of l.subject) l.event
