use Rattle.std.proofs.Common.{◌≡◌, ◌+◌, ◌*◌, ◌≤◌, length}
use Rattle.ov_server.specs.Plays.{layers_in}
use Rattle.ov_server.proofs.Scripts.{Plays}
use Rattle.ov_server.proofs.play.Script.play.Given as goal

-- What was read is played, as far as its lines have ended, and its lines are at most as many as its bytes. No device has failed.
abbrev pub invariant-loop-read : goal.invariant-loop-read
invariant-loop-read g l = record {
  played : Plays (layers_in l.initial.self.stage.core) (g.S.Source.remaining l.initial.input) (g.S.Source.remaining l.input) l.self.pending.items l.self.lines l.self.stage;
  few : l.self.lines ≤ 65536 * l._read;
  reads : g.S.Source.reads l.input ≡ g.S.Source.reads l.initial.input + l._read;
  most : g.S.Source.most l.input ≡ g.S.Source.most l.initial.input;
  piece : length l.piece ≡ 65536;
  input : g.S.Source.failures l.input ≡ g.S.Source.failures l.initial.input;
  output : g.K.Sink.failures l.output.sink ≡ g.K.Sink.failures l.initial.output.sink;
}
