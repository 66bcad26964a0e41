use Rattle.std.proofs.Common.{refl}
use Rattle.ov_session.specs.Talks.{place}
use Rattle.ov_session.proofs.Conversation.{nothing_done}
use Rattle.ov_session.proofs.Talking.{Doorway}
use Rattle.ov_session.proofs.session.converse.Goals as goal

pub returns-in_default-clause-talk : goal.returns-in_default-clause-talk
returns-in_default-clause-talk g c =
    let laws : Doorway g.D.Door.goes = record {
      stays = g.met.D.Door.stays;
      joins = g.met.D.Door.joins;
    } in
    let contents = g.K.Sink.contents in
    let failures = g.K.Sink.failures in
    let told = g.D.Door.told in
    let o = place contents failures told c.args.output.now c.args.session.now c.args.door.now in
    record {
      conversed = nothing_done g.D.Door.goes (g.S.Source.remaining c.args.input.now) o laws;
      handed_on = tt;
      output = refl;
      admitted = c.requires.admitted;
    }
