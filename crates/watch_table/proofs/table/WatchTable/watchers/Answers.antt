use Rattle.std.proofs.Common.{length, ap, ◌∙◌}
use Rattle.watch_table.proofs.Counting.{index-counts}
use Rattle.watch_table.proofs.table.WatchTable.watchers.Goals as goal

pub returns : goal.returns
returns g c =
    rw (← c.self.view_is)
    (ap length c.watchers.ensures ∙ index-counts c.self.inside.listeners c.self.inside.objects c.args.object c.self.invariant c.lawful.ensures)
