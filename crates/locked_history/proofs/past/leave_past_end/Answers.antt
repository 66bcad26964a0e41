use Rattle.std.proofs.Common.{◌≡◌, ◌<◌, ◌≤◌, length, map, vec_len, sym, ◌∙◌, arith}
use Rattle.std.proofs.lemmas.List.{length-map}
use Rattle.locked_history.specs.Entries.{entry_in}
use Rattle.locked_history.proofs.Standing.{within_more, past_more}
use Rattle.locked_history.proofs.past.leave_past_end.Goals as goal
use Rattle.locked_history.proofs.past.leave_past_end.Goals.{then-place-len, else-place-len}

pub loop-i-preserved : goal.loop-i-preserved
loop-i-preserved g c =
    let v = c.loop-i.invariant in
    let es = map (λ n. entry_in n.known) c.args.notes.now.items in
    let long : length es ≡ vec_len c.loop-i.notes = length-map c.args.notes.now.items _ ∙ sym c.args.notes.now.ok.0 ∙ sym v.1.1 in
    let lt : c.loop-i.i < length c.loop-i.receipts.items = omega (arith, c.args.receipts.now.ok.0, v.0.long) in
    elim c.if-place-len.branch [
      | then-place-len w ↦
          let k = w.stand.ensures in
          let s = rw v.1.0 at k.stands in
          let inside : c.index.result.now.place < length es = omega arith in
          let r = within_more es c.index.result.now w.index_mut-receipt.result.now w.stand.new.self v.0 v.2 lt c.index.ensures w.index_mut-receipt.ensures.value k.mine inside s in
          (rw (w.receipts-is, w.left-is) r.0, (rw w.notes-is (k.notes.0 ∙ v.1.0), rw w.notes-is (k.notes.1 ∙ v.1.1)), r.1)
      | else-place-len w ↦
          let far : length es ≤ c.index.result.now.place = omega arith in
          let r = past_more es c.index.result.now v.0 v.2 lt c.index.ensures far w.swap.ensures.by_index in
          (rw (w.receipts-is, w.left-is) r.0, (rw w.notes-is v.1.0, rw w.notes-is v.1.1), r.1)
    ]
