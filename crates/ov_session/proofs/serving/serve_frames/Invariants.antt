use Rattle.std.proofs.Common.{◌≡◌, ◌≤◌, ◌-◌, length}
use Rattle.ov_session.specs.Talks.{place}
use Rattle.ov_session.proofs.Turning.{ServedSo}
use Rattle.ov_session.proofs.serving.serve_frames.Given as goal

abbrev pub invariant-frames : goal.invariant-frames
invariant-frames g l =
    let contents = g.K.Sink.contents in
    let failures = g.K.Sink.failures in
    let told = g.D.Door.told in
    record {
      within : l.used ≤ length l.bytes;
      served : ServedSo g.D.Door.goes l.bytes l.used
          (place contents failures told l.fn.output l.fn.session l.fn.door)
          (place contents failures told l.output l.session l.door);
      well : failures l.output.sink ≡ failures l.fn.output.sink;
      admitted : g.D.Door.admits l.door l.session;
    }

abbrev pub decreases-frames : goal.decreases-frames
decreases-frames g l = length l.bytes - l.used
