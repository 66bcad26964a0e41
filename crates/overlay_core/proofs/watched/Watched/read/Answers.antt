use Rattle.std.proofs.Common.{refl, sym, ◌∙◌}
use Rattle.ov_base.specs.declared.call.CallOf.TheVariants.{Read}
use Rattle.overlay_core.proofs.Making.{performs-out, performs-told}
use Rattle.overlay_core.proofs.Uses.{goes-read, goes-unread, none-bytes, open-tracked, read-open, same-bytes, some-bytes}
use Rattle.overlay_core.proofs.Performing.{on-err, performed-by}
use Rattle.overlay_core.proofs.watched.Watched.read.Goals as goal
use Rattle.overlay_core.proofs.watched.Watched.read.Goals.{in-Read+then-not-is_empty, in-Read+else-not-is_empty, in_default}

pub returns-in_err-reply-clause-performs : goal.returns-in_err-reply-clause-performs
returns-in_err-reply-clause-performs g c = performs-out c.in_err-reply.ensures.makes c.from_residual.result c.from_residual.ensures.0

pub returns-in_err-reply-clause-allowed : goal.returns-in_err-reply-clause-allowed
returns-in_err-reply-clause-allowed g c = on-err c.from_residual.result _
    (λ s a. c.in_err-reply.ensures.allowed s a.stands)

pub used-requires-clause-open : goal.used-requires-clause-open
used-requires-clause-open g c =
    let client = c.args.client in
    let d = c.args.descriptor in
    open-tracked g.R.Rule.shows client (Read d c.args.count) c.in_ok-reply.reply c.args.self.now.mount c.read.new.self c.args.self.now.notifier
    (performed-by c.requires.there c.in_ok-reply.ensures.makes) d
    (λ e refused. let z = sym c.in-Read.is ∙ refused in cc)
    (λ s fine. read-open client d c.args.count s fine)
    c.requires.state

pub returns-clause-performs : goal.returns-clause-performs
returns-clause-performs g c =
    let shows = g.R.Rule.shows in
    let client = c.args.client in
    let d = c.args.descriptor in
    let count = c.args.count in
    let k = Read d count in
    let reply = c.in_ok-reply.reply in
    let old = c.args.self.now.mount in
    let from = c.args.self.now.notifier in
    let new = c.read.new.self in
    let made = c.in_ok-reply.ensures.makes in
    let done = performed-by c.requires.there made in
    elim c.match-reply.branch [
      | in-Read+then-not-is_empty w ↦
          rw w.self-is (performs-told made (goes-read shows client k reply old new from done d count refl w.in-Read.bytes w.in-Read.is
          (some-bytes w.as_slice.result.now w.in-Read.bytes w.as_slice.ensures w.is_empty.result w.is_empty.ensures w.if-not-is_empty.true)
          w.used.new.self w.lawful.ensures.known w.used.ensures) (λ is. tt))
      | in-Read+else-not-is_empty w ↦
          rw w.self-is (performs-told made (goes-unread shows client k reply old new from done d count refl (λ bytes answer.
          none-bytes w.as_slice.result.now bytes (w.as_slice.ensures ∙ same-bytes w.in-Read.bytes bytes (sym w.in-Read.is ∙ answer))
          w.is_empty.result w.is_empty.ensures w.if-not-is_empty.false)) (λ is. tt))
      | in_default w ↦
          rw w.self-is (performs-told made (goes-unread shows client k reply old new from done d count refl
          (λ bytes answer. absurd (w.in_default.not-Read bytes answer))) (λ is. tt))
    ]
