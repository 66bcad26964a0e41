use Rattle.ov_session.specs.Talks.{place}
use Rattle.ov_session.proofs.Conversation.{left_so, parted}
use Rattle.ov_session.proofs.Talking.{Doorway}
use Rattle.ov_session.proofs.session.session_run.Goals as goal

pub returns-in-Detached-clause-session : goal.returns-in-Detached-clause-session
returns-in-Detached-clause-session g c =
    let remaining = g.S.Source.remaining in
    let contents = g.K.Sink.contents in
    let failures = g.K.Sink.failures in
    let told = g.D.Door.told in
    let laws : Doorway g.D.Door.goes = record {
      stays = g.met.D.Door.stays;
      joins = g.met.D.Door.joins;
    } in
    let talk = c.converse-end.new in
    let sent = c.send_farewell.new.output in
    let part = c.detach-farewell in
    let o = place contents failures told c.args.output.now c.args.session.now c.args.door.now in
    let n = place contents failures told talk.output talk.session talk.door in
    left_so g.D.Door.goes (remaining c.args.input.now) (remaining talk.input) o n
    (contents sent.sink) sent.held.items (told part.new.session) part.new.self part.result
    c.send_farewell.result laws c.in-Detached.ensures.talk.conversed c.requires.held part.ensures.told
    part.ensures.goes c.send_farewell.ensures.sent

pub returns-clause-session : goal.returns-clause-session
returns-clause-session g c =
    let remaining = g.S.Source.remaining in
    let contents = g.K.Sink.contents in
    let failures = g.K.Sink.failures in
    let told = g.D.Door.told in
    let laws : Doorway g.D.Door.goes = record {
      stays = g.met.D.Door.stays;
      joins = g.met.D.Door.joins;
    } in
    let talk = c.converse-end.new in
    let h = c.converse-end.ensures.talk in
    let part = c.detach-farewell in
    let o = place contents failures told c.args.output.now c.args.session.now c.args.door.now in
    let n = place contents failures told talk.output talk.session talk.door in
    parted g.D.Door.goes (remaining c.args.input.now) (remaining talk.input) o n
    (told part.new.session) part.new.self c.converse-end.result part.result laws h.conversed
    c.requires.held h.handed_on part.ensures.told part.ensures.goes c.in_default.not-Detached
