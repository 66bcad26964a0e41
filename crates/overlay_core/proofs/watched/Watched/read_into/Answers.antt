use Rattle.std.proofs.Common.{length, refl, sym, take, ◌∙◌, arith}
use Rattle.ov_base.specs.declared.call.CallOf.TheVariants.{Read}
use Rattle.ov_base.specs.declared.reply.Reply.TheVariants as reply
use Rattle.overlay_core.proofs.Making.{performs-told}
use Rattle.overlay_core.proofs.Performing.{performed-by}
use Rattle.overlay_core.proofs.Uses.{front-none, front-some, goes-read, goes-unread, open-tracked, read-open, same-bytes}
use Rattle.overlay_core.proofs.watched.Watched.read_into.Goals as goal

pub returns-in-Err-clause-performs : goal.returns-in-Err-clause-performs
returns-in-Err-clause-performs g c =
    let client = c.args.client in
    let d = c.args.descriptor in
    let n = length c.args.room.now in
    let r = reply.Refused c.in-Err.errno in
    let made = c.in-Err.ensures.makes in
    performs-told made (goes-unread g.R.Rule.shows client (Read d n) r c.args.self.now.mount c.read_into.new.self c.args.self.now.notifier
    (performed-by c.requires.there made) d n refl (λ bytes answer. cc)) (λ is. tt)

pub used-requires-clause-open : goal.used-requires-clause-open
used-requires-clause-open g c =
    let client = c.args.client in
    let d = c.args.descriptor in
    let n = length c.args.room.now in
    open-tracked g.R.Rule.shows client (Read d n) (reply.Read (take c.in-Ok.count c.read_into.new.room))
    c.args.self.now.mount c.read_into.new.self c.args.self.now.notifier (performed-by c.requires.there c.in-Ok.ensures.makes) d
    (λ e refused. cc)
    (λ s fine. read-open client d n s fine)
    c.requires.state

pub returns-then-count-gt0-clause-performs : goal.returns-then-count-gt0-clause-performs
returns-then-count-gt0-clause-performs g c =
    let client = c.args.client in
    let d = c.args.descriptor in
    let n = length c.args.room.now in
    let count = c.in-Ok.count in
    let room = c.read_into.new.room in
    let made = c.in-Ok.ensures.makes in
    let keeps = c.in-Ok.ensures.room in
    let some = c.if-count-gt0.true in
    performs-told made (goes-read g.R.Rule.shows client (Read d n) (reply.Read (take count room)) c.args.self.now.mount
    c.read_into.new.self c.args.self.now.notifier (performed-by c.requires.there made) d n refl (take count room) refl
    (front-some count room (omega (arith, some)) (omega (arith, keeps.0, keeps.1)))
    c.used.new.self c.lawful.ensures.known c.used.ensures) (λ is. tt)

pub returns-else-count-gt0-clause-performs : goal.returns-else-count-gt0-clause-performs
returns-else-count-gt0-clause-performs g c =
    let client = c.args.client in
    let d = c.args.descriptor in
    let n = length c.args.room.now in
    let count = c.in-Ok.count in
    let room = c.read_into.new.room in
    let made = c.in-Ok.ensures.makes in
    let none = c.if-count-gt0.false in
    performs-told made (goes-unread g.R.Rule.shows client (Read d n) (reply.Read (take count room)) c.args.self.now.mount
    c.read_into.new.self c.args.self.now.notifier (performed-by c.requires.there made) d n refl
    (λ bytes answer. sym (same-bytes (take count room) bytes answer) ∙ front-none count room (omega (arith, none)))) (λ is. tt)
