use Rattle.std.proofs.Common.{◌≡◌, ◌+◌, ◌-◌, ◌≤◌, length}
use Rattle.std.specs.List.{prefix_len}
use Rattle.ov_base.proofs.PlainLemmas.{is_plain}
use Rattle.ov_base.proofs.plain.plain_run.Given as goal

abbrev pub decreases-runs : goal.decreases-runs
decreases-runs l = length l.rest

abbrev pub invariant-runs : goal.invariant-runs
invariant-runs l = record {
  short : length l.rest ≤ length l.bytes;
  passed : prefix_len is_plain l.bytes ≡ length l.bytes - length l.rest + prefix_len is_plain
      l.rest;
}
