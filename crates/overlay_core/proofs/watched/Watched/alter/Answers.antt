use Rattle.std.proofs.Common.{refl}
use Rattle.ov_base.specs.declared.reply.Reply.TheVariants.{Done}
use Rattle.merged_lookup.specs.Merged.{lowers_of}
use Rattle.notice_laws.proofs.Lifting.{law_of_altered}
use Rattle.mount_calls.specs.AttributeCalls.{call_at}
use Rattle.overlay_core.proofs.Altering.{asked-alters, held-key, marks-altered}
use Rattle.overlay_core.proofs.Lifted.{altered-file, altered-leads, altered-touches}
use Rattle.overlay_core.proofs.Lifts.{lifts-free, lifts-key}
use Rattle.overlay_core.proofs.Making.{performs-done, performs-lost}
use Rattle.overlay_core.proofs.Performing.{keeps-same, kept-by, performed-by, stays-room}
use Rattle.overlay_core.proofs.Watching.{stays, mount_upper}
use Rattle.overlay_core.proofs.watched.Watched.alter.Goals as goal

pub object_seen-object-requires : goal.object_seen-object-requires
object_seen-object-requires g c = (c.args.path.now, c.requires.look)

pub returns-in_err-prepare_lift : goal.returns-in_err-prepare_lift
returns-in_err-prepare_lift g c =
    let old = c.args.self.now.mount in
    let room = c.prepare_lift.ensures in
    performs-lost c.from_residual.result c.from_residual.ensures.0
    (stays-room old c.args.self.now.notifier c.prepare_lift.new.self room.same c.lawful.ensures.known room.rest)
    (keeps-same (call_at c.args.path.now c.args.call) old)

pub returns-in_err-key : goal.returns-in_err-key
returns-in_err-key g c =
    let old = c.args.self.now.mount in
    let mid = c.prepare_lift.new.self in
    let room = c.prepare_lift.ensures in
    let out = (c.in_err-key.ensures.makes c.args.client).no_memory in
    performs-lost c.from_residual-in_err-key.result c.from_residual-in_err-key.ensures.0
    (λ s a. stays old c.alter.new.self mid mid out.states out.live (λ t tracks. tracks) s
    (stays-room old c.args.self.now.notifier mid room.same c.lawful.ensures.known room.rest s a))
    (kept-by (c.alter.ensures.makes c.args.client))

pub altered-requires-clause-free : goal.altered-requires-clause-free
altered-requires-clause-free g c =
    let old = c.args.self.now.mount in
    let new = c.alter.new.self in
    let mid = c.prepare_lift.new.self in
    let room = c.prepare_lift.ensures in
    let client = c.args.client in
    let path = c.args.path.now in
    let call = call_at path c.args.call in
    let asks = asked-alters path c.args.call in
    let said = c.in_ok-key.ensures in
    lifts-free g.R.Rule.shows client call old new c.args.self.now.notifier mid
    (stays-room old c.args.self.now.notifier mid room.same c.lawful.ensures.known room.rest)
    (performed-by c.requires.there (said.makes client)) path
    (λ s. altered-touches s path call asks) (λ s. altered-file s client path call asks)
    (λ s. altered-leads (mount_upper old) (mount_upper new) (lowers_of old.layers) s client path call asks)
    c.object_seen-object.result (c.object_seen-object.ensures path c.requires.look)
    c.in_ok-key.key (held-key new.layers path c.in_ok-key.key said.key) c.requires.state

pub returns : goal.returns
returns g c =
    let old = c.args.self.now.mount in
    let new = c.alter.new.self in
    let mid = c.prepare_lift.new.self in
    let room = c.prepare_lift.ensures in
    let client = c.args.client in
    let path = c.args.path.now in
    let call = call_at path c.args.call in
    let asks = asked-alters path c.args.call in
    let said = c.in_ok-key.ensures in
    let stays = stays-room old c.args.self.now.notifier mid room.same c.lawful.ensures.known room.rest in
    let object = c.object_seen-object.ensures path c.requires.look in
    performs-done Done c.requires.there (said.makes client) refl
    (λ s a passes. law_of_altered g.R.Rule.shows (mount_upper old) (mount_upper new) (lowers_of old.layers) s client path call asks passes
    c.object_seen-object.result c.in_ok-key.key object mid c.altered.new.self
    (lifts-key g.R.Rule.shows client call old new c.args.self.now.notifier mid stays
    (performed-by c.requires.there (said.makes client)) path
    (λ t. altered-touches t path call asks) (λ t. altered-file t client path call asks)
    (λ t. altered-leads (mount_upper old) (mount_upper new) (lowers_of old.layers) t client path call asks)
    c.object_seen-object.result object c.in_ok-key.key (held-key new.layers path c.in_ok-key.key said.key) s (stays s a) passes)
    (stays s a).tracks c.lawful-2.ensures.known c.altered.ensures)
    (marks-altered path c.args.call old.layers new.layers)
