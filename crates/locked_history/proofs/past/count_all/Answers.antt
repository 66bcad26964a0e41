use Rattle.std.proofs.Common.{◌<◌, length, arith}
use Rattle.locked_history.specs.Claims.{Claim, uncounted}
use Rattle.locked_history.proofs.Standing.{changed, counted_more}
use Rattle.locked_history.proofs.past.count_all.Goals as goal

pub loop-i-preserved : goal.loop-i-preserved
loop-i-preserved g c =
    let i = c.loop-i.i in
    let xs = c.args.receipts.now.items in
    let v = c.loop-i.invariant in
    let lt : i < length xs = omega (arith, c.args.receipts.now.ok.0) in
    let x = c.index_mut-receipt.result.now in
    (changed uncounted xs c.loop-i.receipts.items i x c.give_share.new.self lt v.0 c.index_mut-receipt.ensures.value c.give_share.ensures.mine, counted_more uncounted (λ (r : Claim). r.counted) xs c.loop-i.receipts.items i x c.loop-i.rest.amount c.give_share.new.all.amount lt v.0 c.index_mut-receipt.ensures.value v.1 c.give_share.ensures.all)
