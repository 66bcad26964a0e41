use Rattle.std.proofs.Common.{◌≤◌}
use Rattle.ov_base.proofs.path.slashes.Given as goal

abbrev pub invariant-loop-byte : goal.invariant-loop-byte
invariant-loop-byte l = l.count ≤ l.byte-index
