use Rattle.std.proofs.Common.{refl}
use Rattle.merged_lookup.specs.Merged.{lowers_of}
use Rattle.notice_laws.proofs.Unlinked.{law_of_removed}
use Rattle.ov_base.specs.declared.call.CallOf.TheVariants.{Rmdir}
use Rattle.ov_base.specs.declared.reply.Reply.TheVariants.{Done}
use Rattle.overlay_core.proofs.Bare.{done-bare, removed-bare}
use Rattle.overlay_core.proofs.Making.{performs-done, performs-out}
use Rattle.overlay_core.proofs.Performing.{performed-by, state-of}
use Rattle.overlay_core.proofs.Watching.{mount_upper}
use Rattle.overlay_core.proofs.watched.Watched.rmdir.Goals as goal

pub rmdir-requires-clause-state : goal.rmdir-requires-clause-state
rmdir-requires-clause-state g c = state-of c.args.self.now.mount c.args.self.now.notifier c.requires.state

pub returns-in_err-rmdir : goal.returns-in_err-rmdir
returns-in_err-rmdir g c =
    performs-out (c.in_err-rmdir.ensures.makes c.args.client) c.from_residual.result c.from_residual.ensures.0

pub removed-requires : goal.removed-requires
removed-requires g c =
    let client = c.args.client in
    let path = c.args.path.now in
    let old = c.args.self.now.mount in
    let new = c.rmdir.new.self in
    let from = c.args.self.now.notifier in
    done-bare client (Rmdir path) Done old new from path (performed-by c.requires.there (c.in_ok-rmdir.ensures.makes client)) refl
    c.requires.state (λ s tracks passes. removed-bare (mount_upper old) s from tracks (mount_upper new) (lowers_of old.layers) client path passes)

pub returns : goal.returns
returns g c =
    let old = c.args.self.now.mount in
    let to = c.removed.new.self in
    performs-done Done c.requires.there (c.in_ok-rmdir.ensures.makes c.args.client) refl
    (λ s a passes. law_of_removed g.R.Rule.shows (mount_upper old) (mount_upper c.rmdir.new.self) (lowers_of old.layers) s c.args.client c.args.path.now passes
    c.args.self.now.notifier to a.tracks c.lawful.ensures.known c.removed.ensures)
    (c.in_ok-rmdir.ensures.marks refl)
