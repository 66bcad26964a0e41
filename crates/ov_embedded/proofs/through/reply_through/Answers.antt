use Rattle.std.proofs.Common.{refl}
use Rattle.ov_embedded.specs.Calling.{IsAgain}
use Rattle.ov_embedded.specs.declared.outcome.Outcome.TheVariants as outcome
use Rattle.ov_embedded.proofs.Handled.{through_some}
use Rattle.ov_embedded.proofs.through.reply_through.Goals as goal

pub returns-clause-same : goal.returns-clause-same
returns-clause-same c =
    let held = c.in-Some.mounted.value in
    through_some outcome.NotMounted IsAgain c.args.handle.now.mounted c.of.result.mounted held held
    held held outcome.Done c.in-Some.ensures.mounted refl (refl, refl) refl c.of.ensures
