use Rattle.std.proofs.Common.{◌≡◌, ◌++◌, List, ℕ, length}
use Rattle.std.specs.Io.KnownBytes.{Appends}
use Rattle.ov_devices.proofs.sink.write_all.Given as goal

abbrev pub invariant-parts : goal.invariant-parts
invariant-parts g l = record {
  written : (taken : List ℕ) × Appends (g.K.Sink.contents l.fn.sink) (g.K.Sink.contents l.sink) taken
      × (l.bytes ≡ taken ++ l.rest);
  failures : g.K.Sink.failures l.sink ≡ g.K.Sink.failures l.fn.sink;
}

abbrev pub decreases-parts : goal.decreases-parts
decreases-parts g l = length l.rest
