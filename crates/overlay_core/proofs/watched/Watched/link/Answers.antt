use Rattle.std.proofs.Common.{refl}
use Rattle.ov_base.specs.declared.call.CallOf.TheVariants.{Hardlink}
use Rattle.ov_base.specs.declared.reply.Reply.TheVariants.{Done}
use Rattle.merged_lookup.specs.Merged.{lowers_of}
use Rattle.notice_laws.proofs.Lifting.{law_of_linked}
use Rattle.overlay_core.proofs.Lifted.{linked-file, linked-leads}
use Rattle.overlay_core.proofs.Lifts.{lifts-free, lifts-key}
use Rattle.overlay_core.proofs.Making.{performs-done, performs-lost}
use Rattle.overlay_core.proofs.Performing.{keeps-same, kept-by, performed-by, stays-room}
use Rattle.overlay_core.proofs.Watching.{stays, mount_upper}
use Rattle.overlay_core.proofs.watched.Watched.link.Goals as goal

pub object_seen-object-requires : goal.object_seen-object-requires
object_seen-object-requires g c = (c.args.old.now, c.requires.from)

pub returns-in_err-prepare_lift : goal.returns-in_err-prepare_lift
returns-in_err-prepare_lift g c =
    let old = c.args.self.now.mount in
    let room = c.prepare_lift.ensures in
    performs-lost c.from_residual.result c.from_residual.ensures.0
    (stays-room old c.args.self.now.notifier c.prepare_lift.new.self room.same c.lawful.ensures.known room.rest)
    (keeps-same (Hardlink c.args.old.now c.args.new.now) old)

pub returns-in_err-key : goal.returns-in_err-key
returns-in_err-key g c =
    let old = c.args.self.now.mount in
    let mid = c.prepare_lift.new.self in
    let room = c.prepare_lift.ensures in
    let out = (c.in_err-key.ensures.makes c.args.client).no_memory in
    performs-lost c.from_residual-in_err-key.result c.from_residual-in_err-key.ensures.0
    (λ s a. stays old c.give_name.new.self mid mid out.states out.live (λ t tracks. tracks) s
    (stays-room old c.args.self.now.notifier mid room.same c.lawful.ensures.known room.rest s a))
    (kept-by (c.give_name.ensures.makes c.args.client))

pub linked-requires-clause-free : goal.linked-requires-clause-free
linked-requires-clause-free g c =
    let old = c.args.self.now.mount in
    let new = c.give_name.new.self in
    let mid = c.prepare_lift.new.self in
    let room = c.prepare_lift.ensures in
    let client = c.args.client in
    let p = c.args.old.now in
    let q = c.args.new.now in
    let said = c.in_ok-key.ensures in
    lifts-free g.R.Rule.shows client (Hardlink p q) old new c.args.self.now.notifier mid
    (stays-room old c.args.self.now.notifier mid room.same c.lawful.ensures.known room.rest)
    (performed-by c.requires.there (said.makes client)) p
    (λ s. refl) (λ s. linked-file s client p q)
    (λ s. linked-leads (mount_upper old) (mount_upper new) (lowers_of old.layers) s client p q)
    c.object_seen-object.result (c.object_seen-object.ensures p c.requires.from)
    c.in_ok-key.key said.key c.requires.state

pub returns : goal.returns
returns g c =
    let old = c.args.self.now.mount in
    let new = c.give_name.new.self in
    let mid = c.prepare_lift.new.self in
    let room = c.prepare_lift.ensures in
    let client = c.args.client in
    let p = c.args.old.now in
    let q = c.args.new.now in
    let said = c.in_ok-key.ensures in
    let stays = stays-room old c.args.self.now.notifier mid room.same c.lawful.ensures.known room.rest in
    let object = c.object_seen-object.ensures p c.requires.from in
    performs-done Done c.requires.there (said.makes client) refl
    (λ s a passes. law_of_linked g.R.Rule.shows (mount_upper old) (mount_upper new) (lowers_of old.layers) s client p q passes
    c.object_seen-object.result c.in_ok-key.key object mid c.linked.new.self
    (lifts-key g.R.Rule.shows client (Hardlink p q) old new c.args.self.now.notifier mid stays
    (performed-by c.requires.there (said.makes client)) p
    (λ t. refl) (λ t. linked-file t client p q)
    (λ t. linked-leads (mount_upper old) (mount_upper new) (lowers_of old.layers) t client p q)
    c.object_seen-object.result object c.in_ok-key.key said.key s (stays s a) passes)
    (stays s a).tracks c.lawful-2.ensures.known c.linked.ensures)
    tt
