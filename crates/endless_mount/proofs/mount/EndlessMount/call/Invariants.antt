use Rattle.std.proofs.Common.{◌≡◌, ◌+◌}
use Rattle.overlay_core.specs.declared.job.Standing.TheVariants.{Open}
use Rattle.endless_mount.proofs.mount.EndlessMount.call.Given as goal

abbrev pub invariant-loop-step : goal.invariant-loop-step
invariant-loop-step g l = (l.job.client ≡ l.client) × (l.job.call ≡ l.fn.call) × (l.job.standing ≡ Open) × (l.session ≡ l.initial.session) × (l.seen ≡ l.initial.seen) × (l.job.steps + 1 ≡ l.step)
