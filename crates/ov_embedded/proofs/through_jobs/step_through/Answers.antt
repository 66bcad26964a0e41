use Rattle.std.proofs.Common.{refl}
use Rattle.ov_embedded.specs.Stepping.{Steps}
use Rattle.ov_embedded.specs.declared.outcome.Outcome.TheVariants as outcome
use Rattle.ov_embedded.proofs.Handled.{through_some}
use Rattle.ov_embedded.proofs.through_jobs.step_through.Goals as goal

pub returns-clause-steps : goal.returns-clause-steps
returns-clause-steps c =
    let made = c.step-outcome in
    through_some outcome.NotMounted (Steps c.args.number)
    c.args.handle.now.mounted c.of.result.mounted c.in-Some.mounted.value c.deref_mut.result.now
    made.new.self made.new.self made.result c.in-Some.ensures.mounted
    c.deref_mut.ensures.value made.ensures refl c.of.ensures
