use Rattle.plain_model.proofs.Settled.{law_of_settling}
use Rattle.plain_model.proofs.laws.law_of_settling.Goals as goal

pub returns : goal.returns
returns c = law_of_settling
