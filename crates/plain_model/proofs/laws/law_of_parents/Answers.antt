use Rattle.plain_model.proofs.LookUp.{parent-shown}
use Rattle.plain_model.proofs.laws.law_of_parents.Goals as goal

pub returns : goal.returns
returns c = parent-shown
