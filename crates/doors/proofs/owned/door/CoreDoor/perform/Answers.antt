use Rattle.std.proofs.Common.{[], ◌∷◌, refl, subst, sym}
use Rattle.ov_frames.specs.declared.answer.Answer.TheVariants.{NotTaken}
use Rattle.ov_session.specs.declared.exchange.Exchange.TheVariants.{Called}
use Rattle.overlay_core.specs.Views.{core_room}
use Rattle.overlay_core.proofs.Histories.{no_place, some_place}
use Rattle.doors.specs.owned.Rooms.{IsServed}
use Rattle.doors.proofs.Playing.{served_call, served_full, served_no_memory}
use Rattle.doors.proofs.owned.door.CoreDoor.perform.Goals as goal

pub returns-in-Done-clause-served : goal.returns-in-Done-clause-served
returns-in-Done-clause-served g c =
    let was = c.args.self.now in
    let job = c.new-job in
    served_call was.client c.finished-place.result was.core c.complete.new.self
    c.args.call c.in-Done.reply job.result job.ensures.call.0 job.ensures.call.1
    c.finished-place.ensures c.in-Done.ensures.finished c.in-Done.ensures.turn.0
    (some_place (core_room was.core) c.call_refusal.result c.call_refusal.ensures.refusal c.in_default.not-Some)
    c.complete.ensures.clients c.complete.ensures.kept

pub returns-in-NoMemory-clause-served : goal.returns-in-NoMemory-clause-served
returns-in-NoMemory-clause-served g c =
    let was = c.args.self.now in
    let job = c.new-job in
    served_no_memory was.client c.finished-place.result was.core c.complete.new.self
    c.args.call job.result job.ensures.call.1 (λ h. c.in-NoMemory.ensures.memory h refl)
    c.in-NoMemory.ensures.finished c.in-NoMemory.ensures.turn.0
    (some_place (core_room was.core) c.call_refusal.result c.call_refusal.ensures.refusal c.in_default.not-Some)
    c.complete.ensures.clients c.complete.ensures.kept

pub returns-in-Some-clause-served : goal.returns-in-Some-clause-served
returns-in-Some-clause-served g c =
    let was = c.args.self.now in
    let full = no_place (core_room was.core) c.in-Some.errno c.call_refusal.result c.call_refusal.ensures.refusal c.in-Some.is in
    subst (λ e. IsServed was.client was.core (Called c.args.call (NotTaken e) ∷ []) was.core) (sym full.1)
    (served_full was.client was.core was.core c.args.call full.0 refl)
