use Rattle.std.proofs.Common.{get_or, ap}
use Rattle.std.proofs.lemmas.List.Edits.{map_over_more}
use Rattle.ov_base.specs.declared.node_id.NodeId.TheVariants.{New}
use Rattle.watch_table.specs.Listening.{rearmed}
use Rattle.watch_table.proofs.listener.rearm.Goals as goal

pub loop-watch-preserved : goal.loop-watch-preserved
loop-watch-preserved c =
    let again = rearmed (New c.args.object) c.args.mask in
    let old = get_or c.loop-watch.watches c.loop-watch.watch-index c.watch-item.result in
    let read = ap (λ d. get_or c.loop-watch.watches c.loop-watch.watch-index d) c.watch-item.is in
    let ws = c.loop-watch.watches in
    rw c.rearm_on.ensures
    (map_over_more again c.args.watches.now ws c.loop-watch.watch-index old c.loop-watch-test.true c.loop-watch.invariant read)
