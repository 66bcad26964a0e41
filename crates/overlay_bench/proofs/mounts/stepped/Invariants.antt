use Rattle.std.proofs.Common.{◌≡◌, ◌+◌, ◌<◌, ◌^◌, true}
use Rattle.overlay_core.specs.declared.job.Standing.TheVariants.{Open}
use Rattle.overlay_core.specs.Views.{core_finished, has_client}
use Rattle.overlay_bench.proofs.mounts.stepped.Given as goal

-- the job is open, and its client is attached
abbrev pub invariant-loop : goal.invariant-loop
invariant-loop g l = record {
  still : l.job.standing ≡ Open;
  attached : has_client l.core l.job.client ≡ true;
  bound : core_finished l.core + 1 < 2 ^ 63;
}
