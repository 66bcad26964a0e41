use Rattle.std.proofs.Common.{ap, refl, sym, ◌∙◌}
use Rattle.ov_base.specs.declared.call.CallOf.TheVariants.{Write}
use Rattle.overlay_core.proofs.Making.{performs-out, performs-told}
use Rattle.overlay_core.proofs.Uses.{goes-refused, goes-unwritten, goes-written, none-bytes, open-tracked, some-bytes, write-open}
use Rattle.overlay_core.proofs.Performing.{on-err, performed-by}
use Rattle.overlay_core.proofs.watched.Watched.write.Goals as goal
use Rattle.overlay_core.proofs.watched.Watched.write.Goals.{in-Written+then-not-is_empty, in-Written+else-not-is_empty, in_default}

pub returns-in_err-reply-clause-performs : goal.returns-in_err-reply-clause-performs
returns-in_err-reply-clause-performs g c = performs-out c.in_err-reply.ensures.makes c.from_residual.result c.from_residual.ensures.0

pub returns-in_err-reply-clause-allowed : goal.returns-in_err-reply-clause-allowed
returns-in_err-reply-clause-allowed g c = on-err c.from_residual.result _
    (λ s a. c.in_err-reply.ensures.allowed s a.stands)

pub used-requires-clause-open : goal.used-requires-clause-open
used-requires-clause-open g c =
    let client = c.args.client in
    let d = c.args.descriptor in
    open-tracked g.R.Rule.shows client (Write d c.args.bytes.now) c.in_ok-reply.reply c.args.self.now.mount c.write.new.self c.args.self.now.notifier
    (performed-by c.requires.there c.in_ok-reply.ensures.makes) d
    (λ e refused. let z = sym c.in-Written.is ∙ refused in cc)
    (λ s fine. write-open client d c.args.bytes.now s fine)
    c.requires.state

pub returns-clause-performs : goal.returns-clause-performs
returns-clause-performs g c =
    let shows = g.R.Rule.shows in
    let client = c.args.client in
    let d = c.args.descriptor in
    let bytes = c.args.bytes.now in
    let k = Write d bytes in
    let reply = c.in_ok-reply.reply in
    let old = c.args.self.now.mount in
    let from = c.args.self.now.notifier in
    let new = c.write.new.self in
    let made = c.in_ok-reply.ensures.makes in
    let done = performed-by c.requires.there made in
    elim c.match-reply.branch [
      | in-Written+then-not-is_empty w ↦
          rw w.self-is (performs-told made (goes-written shows client k reply old new from done d bytes refl w.in-Written.field-0 w.in-Written.is
          (some-bytes w.as_slice.result.now bytes w.as_slice.ensures w.is_empty.result w.is_empty.ensures w.if-not-is_empty.true)
          w.used.new.self w.lawful.ensures.known w.used.ensures) (λ is. tt))
      | in-Written+else-not-is_empty w ↦
          rw w.self-is (performs-told made (goes-unwritten shows client k reply old new from done d
          (ap (Write d) (none-bytes w.as_slice.result.now bytes w.as_slice.ensures w.is_empty.result w.is_empty.ensures w.if-not-is_empty.false))) (λ is. tt))
      | in_default w ↦
          rw w.self-is (performs-told made (goes-refused shows client k reply old new from done d refl
          (λ s at. w.in_default.not-Written _ at)) (λ is. tt))
    ]
