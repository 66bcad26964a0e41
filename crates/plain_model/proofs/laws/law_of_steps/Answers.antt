use Rattle.plain_model.proofs.Stepping.{law_of_steps}
use Rattle.plain_model.proofs.laws.law_of_steps.Goals as goal

pub returns : goal.returns
returns c = law_of_steps
