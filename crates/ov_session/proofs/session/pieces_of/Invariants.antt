use Rattle.std.proofs.Common.{◌≡◌, ◌+◌, ◌≤◌, ◌-◌, [], length, take, drop}
use Rattle.ov_frames.specs.Streams.{Held}
use Rattle.ov_session.proofs.SoFar.{SoFar}
use Rattle.ov_session.specs.Talks.{place}
use Rattle.ov_session.proofs.session.pieces_of.Given as goal

abbrev pub invariant-pieces : goal.invariant-pieces
invariant-pieces g l =
    let remaining = g.S.Source.remaining in
    let contents = g.K.Sink.contents in
    let failures = g.K.Sink.failures in
    let told = g.D.Door.told in
    record {
      so_far : SoFar g.D.Door.goes (remaining l.fn.input) (remaining l.input)
          (place contents failures told l.fn.output l.fn.session l.fn.door)
          (place contents failures told l.output l.session l.door)
          (Held (drop l.start (take l.end l.bytes)));
      near : l.start + l.start ≤ l.end;
      within : l.end ≤ length l.bytes;
      room : length l.bytes ≡ 140008;
      input : g.S.Source.failures l.input ≡ g.S.Source.failures l.fn.input;
      reads : g.S.Source.reads l.fn.input ≤ g.S.Source.reads l.input;
      most : g.S.Source.most l.input ≡ g.S.Source.most l.fn.input;
      well : failures l.output.sink ≡ failures l.fn.output.sink;
      held : l.output.held.items ≡ [];
      admitted : g.D.Door.admits l.door l.session;
    }

abbrev pub decreases-pieces : goal.decreases-pieces
decreases-pieces g l = g.S.Source.most l.input - g.S.Source.reads l.input
