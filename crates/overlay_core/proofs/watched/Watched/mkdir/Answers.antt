use Rattle.std.proofs.Common.{refl}
use Rattle.merged_lookup.specs.Merged.{lowers_of}
use Rattle.ov_base.specs.declared.call.CallOf.TheVariants.{Mkdir}
use Rattle.ov_base.specs.declared.reply.Reply.TheVariants.{Done}
use Rattle.notice_laws.proofs.Making.{law_of_made}
use Rattle.overlay_core.proofs.Making.{performs-done, performs-out}
use Rattle.overlay_core.proofs.Watching.{mount_upper}
use Rattle.overlay_core.proofs.watched.Watched.mkdir.Goals as goal

pub returns-in_err-mkdir : goal.returns-in_err-mkdir
returns-in_err-mkdir g c =
    performs-out (c.in_err-mkdir.ensures.makes c.args.client) c.from_residual.result
    c.from_residual.ensures.0

pub returns : goal.returns
returns g c =
    let old = c.args.self.now.mount in
    let p = c.args.path.now in
    let to = c.made.new.self in
    performs-done Done c.requires.there (c.in_ok-mkdir.ensures.makes c.args.client) refl
    (λ s a passes. law_of_made g.R.Rule.shows (mount_upper old) (mount_upper c.mkdir.new.self)
    (lowers_of old.layers) s c.args.client p (Mkdir p c.args.mode) _ refl refl passes
    c.args.self.now.notifier to a.tracks c.lawful.ensures.known c.made.ensures)
    (c.in_ok-mkdir.ensures.marks refl)
