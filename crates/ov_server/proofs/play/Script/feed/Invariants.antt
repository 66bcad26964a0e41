use Rattle.std.proofs.Common.{◌≡◌, ◌+◌, ◌≤◌, length}
use Rattle.ov_server.specs.Plays.{GoesOn}
use Rattle.ov_server.proofs.play.Script.feed.Given as goal

-- the lines so far were played, and are at most as many as the bytes that were taken; the output has not failed
abbrev pub invariant-lines : goal.invariant-lines
invariant-lines g l = record {
  played : GoesOn l.initial.rest l.initial.self.pending.items l.initial.self.lines l.initial.self.stage l.rest l.self.pending.items l.self.lines l.self.stage;
  few : l.self.lines + length l.rest ≤ l.initial.self.lines + length l.initial.rest;
  well : g.K.Sink.failures l.output.sink ≡ g.K.Sink.failures l.initial.output.sink;
}

abbrev pub decreases-lines : goal.decreases-lines
decreases-lines g l = length l.rest
