use Rattle.plain_model.proofs.Settled.{law_of_settled_opening}
use Rattle.plain_model.proofs.laws.law_of_settled_opening.Goals as goal

pub returns : goal.returns
returns c = law_of_settled_opening
