use Rattle.std.proofs.Common.{refl}
use Rattle.ov_embedded.specs.Calling.{Comes}
use Rattle.ov_embedded.specs.declared.outcome.Outcome.TheVariants as outcome
use Rattle.ov_embedded.proofs.Handled.{through_some}
use Rattle.ov_embedded.proofs.through.call_through.Goals as goal

pub returns-clause-comes : goal.returns-clause-comes
returns-clause-comes c =
    let made = c.call-outcome in
    through_some outcome.NotMounted (Comes c.args.client c.args.frame.now)
    c.args.handle.now.mounted c.of.result.mounted c.in-Some.mounted.value c.deref_mut.result.now
    made.new.self made.new.self made.result c.in-Some.ensures.mounted c.deref_mut.ensures.value
    made.ensures refl c.of.ensures
