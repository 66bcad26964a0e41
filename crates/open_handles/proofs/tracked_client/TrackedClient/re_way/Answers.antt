use Rattle.std.proofs.Common.{◌≡◌, ◌<◌, ◌∙◌, ap, sym, length, set, arith, Option}
use Rattle.std.proofs.lemmas.List.Edits.{map_over_more}
use Rattle.open_handles.specs.TrackedHandles.{TrackedTable}
use Rattle.open_handles.specs.declared.tracked_client.TrackedHandle.{TrackedHandle}
use Rattle.open_handles.proofs.TrackedWays.{re_slot}
use Rattle.open_handles.proofs.tracked_client.TrackedClient.re_way.Goals as goal

pub loop-slot-preserved : goal.loop-slot-preserved
loop-slot-preserved c =
    let slots = c.args.self.now.slots in
    let now = c.loop-slot.slot-items in
    let i = c.loop-slot.slot-index in
    let began : c.deref_mut-slot-items.result.now ≡ slots = c.deref_mut-slot-items.ensures.value ∙ ap (λ (k : TrackedTable). k.slots) c.self.view_is in
    let within : i < length slots = omega (arith, ap length began) in
    ap (λ (s : Option TrackedHandle). set now i s) (c.re_way.ensures ∙ sym (ap (re_slot c.args.object c.args.from.now c.args.to.now) c.slot-item.is))
    ∙ map_over_more (re_slot c.args.object c.args.from.now c.args.to.now) slots now i c.slot-item.result within c.loop-slot.invariant c.slot-item.is
