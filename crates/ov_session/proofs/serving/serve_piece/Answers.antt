use Rattle.std.proofs.Common.{refl, sym, ◌∙◌}
use Rattle.ov_session.specs.Talks.{place}
use Rattle.ov_session.proofs.Talking.{counted_at, counted_on, counted_same, handed_empty, handed_badly}
use Rattle.ov_session.proofs.Turning.{turn_on, turn_badly}
use Rattle.ov_session.proofs.serving.serve_piece.Goals as goal

pub returns-in-Ok : goal.returns-in-Ok
returns-in-Ok g c =
    let contents = g.K.Sink.contents in
    let failures = g.K.Sink.failures in
    let told = g.D.Door.told in
    let all = c.serve_frames-served in
    let bytes = c.args.bytes.now in
    let o = place contents failures told c.args.output.now c.args.session.now c.args.door.now in
    let m = place contents failures told all.new.output all.new.session all.new.door in
    let n = place contents failures told c.flush.new.self all.new.session all.new.door in
    record {
      serves = record {
        turn =
            turn_on g.D.Door.goes bytes o m n all.result all.ensures.turn
            c.flush.ensures.bytes refl refl;
        output =
            counted_on o.failures m.failures n.failures all.result all.ensures.output
            c.in-Ok.ensures.failures;
        admitted = all.ensures.admitted;
      };
      handed_on = handed_empty all.result n.held c.in-Ok.ensures.held;
    }

pub returns-in-Err : goal.returns-in-Err
returns-in-Err g c =
    let contents = g.K.Sink.contents in
    let failures = g.K.Sink.failures in
    let told = g.D.Door.told in
    let all = c.serve_frames-served in
    let bytes = c.args.bytes.now in
    let o = place contents failures told c.args.output.now c.args.session.now c.args.door.now in
    let m = place contents failures told all.new.output all.new.session all.new.door in
    let n = place contents failures told c.flush.new.self all.new.session all.new.door in
    record {
      serves = record {
        turn =
            turn_badly g.D.Door.goes bytes o m n all.result c.in-Err.end
            all.ensures.turn c.in-Err.ensures.end c.flush.ensures.bytes refl refl;
        output =
            counted_at o.failures m.failures n.failures c.in-Err.end
            (counted_same all.result
            (sym c.has_failed.ensures ∙ c.if-has_failed.false) all.ensures.output) c.in-Err.ensures.failures;
        admitted = all.ensures.admitted;
      };
      handed_on = handed_badly c.in-Err.end n.held c.in-Err.ensures.end;
    }
