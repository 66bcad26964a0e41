use Rattle.std.proofs.Common.{◌≡◌, ◌++◌, map, take, drop}
use Rattle.ov_base.specs.declared.node_id.NodeId.TheVariants.{New}
use Rattle.watch_table.specs.Listening.{rearmed}
use Rattle.watch_table.proofs.listener.rearm.Given as goal

abbrev pub invariant-loop-watch : goal.invariant-loop-watch
invariant-loop-watch l = l.watches ≡ map (rearmed (New l.object) l.mask)
    (take l.watch-index l.fn.watches) ++ drop l.watch-index l.fn.watches
