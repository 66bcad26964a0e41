use Rattle.std.proofs.Common.{Err, refl}
use Rattle.ov_base.specs.declared.call.CallOf.TheVariants.{Rename}
use Rattle.mount_calls.proofs.Renaming.{to-path}
use Rattle.mount_calls.proofs.Stating.{the_lowers, the_upper}
use Rattle.notifier.proofs.GivenUp.{given-up}
use Rattle.overlay_core.proofs.Making.{performs-lost, performs-told}
use Rattle.overlay_core.proofs.Performing.{performed-by, state-of, keeps-same, kept-by}
use Rattle.overlay_core.proofs.RenamesTold.{clients-counted, goes-moved, gone-agrees, moving-bare, moving-free, moving-place, stays-gone}
use Rattle.overlay_core.proofs.watched.Watched.rename.Goals as goal

pub object_seen-object-requires : goal.object_seen-object-requires
object_seen-object-requires g c = (c.args.old.now, c.requires.from)

pub object_seen-replaced-requires : goal.object_seen-replaced-requires
object_seen-replaced-requires g c = (c.args.new.now, c.requires.onto)

pub prepare_move-prepared-requires-clause-clients : goal.prepare_move-prepared-requires-clause-clients
prepare_move-prepared-requires-clause-clients g c =
    clients-counted c.args.self.now.mount c.args.self.now.notifier c.requires.state

pub prepare_move-prepared-requires-clause-below : goal.prepare_move-prepared-requires-clause-below
prepare_move-prepared-requires-clause-below g c =
    let m = c.args.self.now.mount in
    to-path (the_upper m) (the_lowers m) m.redirects c.args.old.now c.args.new.now
    c.requires.moving.fine

pub returns-in_err-prepared : goal.returns-in_err-prepared
returns-in_err-prepared g c =
    let m = c.args.self.now.mount in
    performs-lost c.from_residual.result c.from_residual.ensures.0
    (gone-agrees m c.args.self.now.notifier c.prepare_move-prepared.new.self
    c.in_err-prepared.ensures.err c.lawful-2.ensures.known)
    (keeps-same (Rename c.args.old.now c.args.new.now) m)

pub rename_moving-requires-clause-state : goal.rename_moving-requires-clause-state
rename_moving-requires-clause-state g c = state-of c.args.self.now.mount c.args.self.now.notifier c.requires.state

pub moved-requires-clause-free : goal.moved-requires-clause-free
moved-requires-clause-free g c =
    moving-free g.R.Rule.shows c.args.client c.args.old.now c.args.new.now c.args.self.now.mount c.rename_moving.new.self
    c.args.self.now.notifier c.prepare_move-prepared.new.self c.in_ok-prepared.ensures.held
    (performed-by c.requires.there (c.in-Ok.ensures.makes c.args.client)) c.requires.moving.apart c.lawful-2.ensures.known
    c.object_seen-object.result c.object_seen-replaced.result (c.object_seen-object.ensures c.args.old.now c.requires.from)
    (c.object_seen-replaced.ensures c.args.new.now c.requires.onto) c.in-Ok.key c.in-Ok.ensures.key c.requires.state

pub moved-requires-clause-bare : goal.moved-requires-clause-bare
moved-requires-clause-bare g c =
    let m = c.args.self.now.mount in
    moving-bare g.R.Rule.shows c.args.client c.args.old.now c.args.new.now c.args.self.now.mount c.rename_moving.new.self
    c.args.self.now.notifier c.prepare_move-prepared.new.self c.in_ok-prepared.ensures.held
    (performed-by c.requires.there (c.in-Ok.ensures.makes c.args.client)) c.requires.moving.apart c.lawful-2.ensures.known
    c.object_seen-object.result c.object_seen-replaced.result (c.object_seen-object.ensures c.args.old.now c.requires.from)
    (c.object_seen-replaced.ensures c.args.new.now c.requires.onto) c.in-Ok.key c.in-Ok.ensures.key c.requires.state
    (to-path (the_upper m) (the_lowers m) m.redirects c.args.old.now c.args.new.now
    c.requires.moving.fine)

pub moved-requires-clause-place : goal.moved-requires-clause-place
moved-requires-clause-place g c =
    moving-place g.R.Rule.shows c.args.client c.args.old.now c.args.new.now c.args.self.now.mount c.rename_moving.new.self
    c.args.self.now.notifier c.prepare_move-prepared.new.self c.in_ok-prepared.ensures.held
    (performed-by c.requires.there (c.in-Ok.ensures.makes c.args.client)) c.requires.moving.apart c.lawful-2.ensures.known
    c.object_seen-object.result c.object_seen-replaced.result (c.object_seen-object.ensures c.args.old.now c.requires.from)
    (c.object_seen-replaced.ensures c.args.new.now c.requires.onto) c.in-Ok.key c.in-Ok.ensures.key c.requires.state

pub returns-in-Ok : goal.returns-in-Ok
returns-in-Ok g c =
    let makes = c.in-Ok.ensures.makes c.args.client in
    performs-told makes
    (goes-moved g.R.Rule.shows c.args.client c.args.old.now c.args.new.now c.args.self.now.mount c.rename_moving.new.self
    c.args.self.now.notifier c.prepare_move-prepared.new.self c.in_ok-prepared.ensures.held
    (performed-by c.requires.there makes) c.requires.moving.apart c.lawful-2.ensures.known
    c.object_seen-object.result c.object_seen-replaced.result (c.object_seen-object.ensures c.args.old.now c.requires.from)
    (c.object_seen-replaced.ensures c.args.new.now c.requires.onto) c.in-Ok.key c.in-Ok.ensures.key
    c.moved.new.self c.lawful-in-Ok.ensures.known c.moved.ensures)
    c.in-Ok.ensures.marks

pub returns-in-Err : goal.returns-in-Err
returns-in-Err g c =
    let from = c.args.self.now.notifier in
    let to = c.cancel_move.new.self in
    let makes = c.in-Err.ensures.makes c.args.client in
    performs-lost (Err c.in-Err.fault) refl
    (stays-gone c.args.self.now.mount c.rename_moving.new.self from to
    (given-up from c.prepare_move-prepared.new.self to c.args.new.now c.in_ok-prepared.ensures.held
    (record { fewer = c.cancel_move.ensures.fewer; rest = c.cancel_move.ensures.rest })
    c.lawful-in-Err.ensures.counts c.lawful-in-Err.ensures.held)
    c.lawful-in-Err.ensures.known makes.no_memory.states makes.no_memory.live)
    (kept-by makes)
