use Rattle.std.proofs.Common.{refl, sym, ◌∙◌}
use Rattle.ov_base.specs.declared.call.CallOf.TheVariants.{Truncate}
use Rattle.overlay_core.proofs.Making.{performs-out, performs-told}
use Rattle.overlay_core.proofs.Uses.{goes-refused, goes-truncated, open-tracked, truncate-open}
use Rattle.overlay_core.proofs.Performing.{on-err, performed-by}
use Rattle.overlay_core.proofs.watched.Watched.truncate.Goals as goal
use Rattle.overlay_core.proofs.watched.Watched.truncate.Goals.{in-Done, in_default}

pub returns-in_err-reply-clause-performs : goal.returns-in_err-reply-clause-performs
returns-in_err-reply-clause-performs g c = performs-out c.in_err-reply.ensures.makes c.from_residual.result c.from_residual.ensures.0

pub returns-in_err-reply-clause-allowed : goal.returns-in_err-reply-clause-allowed
returns-in_err-reply-clause-allowed g c = on-err c.from_residual.result _
    (λ s a. c.in_err-reply.ensures.allowed s a.stands)

pub used-requires-clause-open : goal.used-requires-clause-open
used-requires-clause-open g c =
    let client = c.args.client in
    let d = c.args.descriptor in
    open-tracked g.R.Rule.shows client (Truncate d c.args.size) c.in_ok-reply.reply c.args.self.now.mount c.truncate.new.self c.args.self.now.notifier
    (performed-by c.requires.there c.in_ok-reply.ensures.makes) d
    (λ e refused. let z = sym c.in-Done.is ∙ refused in cc)
    (λ s fine. truncate-open client d c.args.size s fine)
    c.requires.state

pub returns-clause-performs : goal.returns-clause-performs
returns-clause-performs g c =
    let client = c.args.client in
    let d = c.args.descriptor in
    let k = Truncate d c.args.size in
    let reply = c.in_ok-reply.reply in
    let old = c.args.self.now.mount in
    let from = c.args.self.now.notifier in
    let new = c.truncate.new.self in
    let made = c.in_ok-reply.ensures.makes in
    let done = performed-by c.requires.there made in
    elim c.match-reply.branch [
      | in-Done w ↦
          rw w.self-is (performs-told made (goes-truncated g.R.Rule.shows client k reply old new from done d c.args.size refl
          w.in-Done.is w.used.new.self w.lawful.ensures.known w.used.ensures) (λ is. tt))
      | in_default w ↦
          rw w.self-is (performs-told made (goes-refused g.R.Rule.shows client k reply old new from done d refl
          (λ s at. w.in_default.not-Done at)) (λ is. tt))
    ]
