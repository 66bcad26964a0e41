use Rattle.std.proofs.Common.{◌≡◌, [], length}
use Rattle.ov_session.specs.Devices.{Gains}
use Rattle.ov_session.proofs.output.SessionOutput.hand_on.Given as goal

abbrev pub invariant-parts : goal.invariant-parts
invariant-parts g l = record {
  bytes : Gains (g.K.Sink.contents l.fn.self.sink) (g.K.Sink.contents l.self.sink)
      l.fn.self.held.items l.self.held.items [];
  well : g.K.Sink.failures l.self.sink ≡ g.K.Sink.failures l.fn.self.sink;
}

abbrev pub decreases-parts : goal.decreases-parts
decreases-parts g l = length l.self.held.items
