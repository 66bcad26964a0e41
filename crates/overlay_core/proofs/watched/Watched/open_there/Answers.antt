use Rattle.std.proofs.Common.{◌≡◌, refl}
use Rattle.ov_base.specs.Calls.{Call}
use Rattle.ov_base.specs.declared.call.CallOf.TheVariants.{Open}
use Rattle.ov_base.specs.declared.reply.Reply.{Reply}
use Rattle.ov_base.specs.declared.reply.Reply.TheVariants.{Descriptor, Refused}
use Rattle.notifier.proofs.HeldForOpens.{found-held}
use Rattle.overlay_core.specs.Watching.{Stays}
use Rattle.overlay_core.proofs.Opens.{attached-tracked, back-agrees, back-tracks, free-watched}
use Rattle.overlay_core.proofs.OpensTold.{goes-opened, opened-free}
use Rattle.overlay_core.proofs.Performing.{Performed, on-err, state-of, keeps-same}
use Rattle.overlay_core.proofs.Watching.{stays, mount_upper}
use Rattle.overlay_core.proofs.watched.Watched.open_there.Goals as goal

pub prepare_open-prepared-requires-clause-attached : goal.prepare_open-prepared-requires-clause-attached
prepare_open-prepared-requires-clause-attached g c =
    attached-tracked c.args.self.now.mount c.args.self.now.notifier c.args.client c.requires.state c.requires.there

pub prepare_open-prepared-requires-clause-slot : goal.prepare_open-prepared-requires-clause-slot
prepare_open-prepared-requires-clause-slot g c = c.requires.judged.free.in_range

pub prepare_open-prepared-requires-clause-free : goal.prepare_open-prepared-requires-clause-free
prepare_open-prepared-requires-clause-free g c =
    free-watched c.args.self.now.mount c.args.self.now.notifier c.args.client c.args.judged.descriptor c.requires.state c.requires.judged.free.free

pub returns-in_err-prepared-clause-err : goal.returns-in_err-prepared-clause-err
returns-in_err-prepared-clause-err g c =
    let old = c.args.self.now.mount in
    let from = c.args.self.now.notifier in
    let back = c.prepare_open-prepared.new.self in
    on-err c.from_residual.result (Stays old from old back)
    (λ s a. back-agrees old s from back c.lawful-2.ensures.known c.in_err-prepared.ensures.err a)

pub open_judged-requires-clause-state : goal.open_judged-requires-clause-state
open_judged-requires-clause-state g c = state-of c.args.self.now.mount c.args.self.now.notifier c.requires.state

pub returns-in-Err-clause-err : goal.returns-in-Err-clause-err
returns-in-Err-clause-err g c =
    let old = c.args.self.now.mount in
    let from = c.args.self.now.notifier in
    let new = c.open_judged.new.self in
    let back = c.cancel_open.new.self in
    let ready = c.in_ok-prepared.ensures.ready in
    stays old new from back c.in-Err.ensures.no_memory.states c.in-Err.ensures.no_memory.live
    (λ s t. back-tracks (mount_upper old) s from back c.lawful-in-Err.ensures.known (c.cancel_open.ensures from ready.handle ready.readies) t)

pub opened-requires : goal.opened-requires
opened-requires g c =
    let client = c.args.client in
    let fd = c.args.judged.descriptor in
    let call : Call = Open c.args.path.now c.args.flags c.args.judged.mode in
    let reply : Reply = Descriptor fd in
    let old = c.args.self.now.mount in
    let from = c.args.self.now.notifier in
    let new = c.open_judged.new.self in
    let said = c.in-Ok.ensures in
    let ready = c.in_ok-prepared.ensures.ready in
    let done : Performed client call reply old new = record { there = c.requires.there; serves = said.answers.serves; lowers = c.open_judged.ensures.lowers; named = said.answers.named; refused = said.answers.refused } in (
      c.args.path.now,
      (ready.handle, ready.readies.sets.here, found-held ready.holds.mid c.prepare_open-prepared.new.self.objects c.args.path.now c.args.object ready.handle.object ready.holds.object),
      λ writes. (
        c.in_ok-prepared.ensures.room,
        opened-free g.R.Rule.shows client c.args.path.now c.args.flags c.args.judged.mode call refl reply old new from done c.args.object
            c.requires.stands c.requires.something c.lawful.ensures.known c.prepare_open-prepared.new.self
            fd ready c.requires.judged.free c.key_opened-key.result c.key_opened-key.ensures
            (λ e is. let no : Descriptor fd ≡ Refused e = is in cc) c.requires.state writes,
      ),
    )

pub returns-in-Ok-clause-goes : goal.returns-in-Ok-clause-goes
returns-in-Ok-clause-goes g c =
    let client = c.args.client in
    let fd = c.args.judged.descriptor in
    let call : Call = Open c.args.path.now c.args.flags c.args.judged.mode in
    let reply : Reply = Descriptor fd in
    let old = c.args.self.now.mount in
    let from = c.args.self.now.notifier in
    let new = c.open_judged.new.self in
    let said = c.in-Ok.ensures in
    let ready = c.in_ok-prepared.ensures.ready in
    let done : Performed client call reply old new = record { there = c.requires.there; serves = said.answers.serves; lowers = c.open_judged.ensures.lowers; named = said.answers.named; refused = said.answers.refused } in
    goes-opened g.R.Rule.shows client c.args.path.now c.args.flags c.args.judged.mode call refl reply old new from done c.args.object
    c.requires.stands c.requires.something c.lawful.ensures.known c.prepare_open-prepared.new.self
    fd ready c.requires.judged.free c.key_opened-key.result c.key_opened-key.ensures
    (λ e is. let no : Descriptor fd ≡ Refused e = is in cc) c.opened.new.self c.lawful-in-Ok.ensures.known
    (c.opened.ensures from c.args.path.now ready)

pub returns-in_err-prepared-clause-kept : goal.returns-in_err-prepared-clause-kept
returns-in_err-prepared-clause-kept g c = keeps-same (Open c.args.path.now c.args.flags c.args.judged.mode) c.args.self.now.mount
