use Rattle.std.proofs.Common.{◌≡◌}
use Rattle.ov_server.proofs.saved_bytes.put_digits.Given as goal

-- no device has failed so far
abbrev pub invariant-loop : goal.invariant-loop
invariant-loop g l = g.K.Sink.failures l.output.sink ≡ g.K.Sink.failures l.initial.output.sink
