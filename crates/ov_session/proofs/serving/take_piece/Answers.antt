use Rattle.std.proofs.Common.{◌<◌, [], length, arith, refl}
use Rattle.ov_frames.proofs.Completing.{lacks_begun}
use Rattle.ov_frames.specs.Fronts.{front_end}
use Rattle.ov_session.specs.Talks.{place}
use Rattle.ov_session.proofs.Talking.{Doorway, talked_nothing}
use Rattle.ov_session.proofs.serving.take_piece.Goals as goal

pub returns-then-bytes-front_end : goal.returns-then-bytes-front_end
returns-then-bytes-front_end g c =
    let contents = g.K.Sink.contents in
    let failures = g.K.Sink.failures in
    let told = g.D.Door.told in
    let laws : Doorway g.D.Door.goes = record {
      stays = g.met.D.Door.stays;
      joins = g.met.D.Door.joins;
    } in
    let o = place contents failures told c.args.output.now c.args.session.now c.args.door.now in
    let bytes = c.args.bytes.now in
    let lacks : length bytes < front_end bytes =
    omega (arith, c.front_end.ensures, c.if-bytes-front_end.true) in
    record {
      serves = record {
        turn = (
          omega arith,
          ([], (lacks_begun bytes lacks, refl), talked_nothing g.D.Door.goes o laws),
        );
        output = refl;
        admitted = c.requires.admitted;
      };
      handed_on = c.requires.held;
    }
