use Rattle.std.proofs.Common.{refl}
use Rattle.ov_base.specs.declared.call.CallOf.TheVariants.{Unlink}
use Rattle.ov_base.specs.declared.reply.Reply.TheVariants.{Done}
use Rattle.merged_lookup.specs.Merged.{lowers_of}
use Rattle.notice_laws.proofs.Unlinked.{law_of_unlinked}
use Rattle.overlay_core.proofs.Bare.{done-bare, unlinked-bare}
use Rattle.overlay_core.proofs.Making.{performs-done, performs-out}
use Rattle.overlay_core.proofs.Performing.{performed-by}
use Rattle.overlay_core.proofs.Watching.{mount_upper}
use Rattle.overlay_core.proofs.watched.Watched.unlink.Goals as goal

pub returns-in_err-object : goal.returns-in_err-object
returns-in_err-object g c =
    performs-out (c.in_err-object.ensures.makes c.args.client) c.from_residual.result c.from_residual.ensures.0

pub unlinked-requires : goal.unlinked-requires
unlinked-requires g c =
    let client = c.args.client in
    let path = c.args.path.now in
    let old = c.args.self.now.mount in
    let new = c.unlink_telling.new.self in
    let from = c.args.self.now.notifier in
    done-bare client (Unlink path) Done old new from path (performed-by c.requires.there (c.in_ok-object.ensures.makes client)) refl
    c.requires.state (λ s tracks passes. unlinked-bare (mount_upper old) s from tracks (mount_upper new) (lowers_of old.layers) client path passes)

pub returns : goal.returns
returns g c =
    let said = c.in_ok-object.ensures in
    let client = c.args.client in
    let path = c.args.path.now in
    let old = c.args.self.now.mount in
    let new = c.unlink_telling.new.self in
    performs-done Done c.requires.there (said.makes client) refl
    (λ s a passes. law_of_unlinked g.R.Rule.shows (mount_upper old) (mount_upper new) (lowers_of old.layers) s client path passes
    c.in_ok-object.object said.object c.args.self.now.notifier c.unlinked.new.self a.tracks c.lawful.ensures.known c.unlinked.ensures)
    (said.marks refl)
