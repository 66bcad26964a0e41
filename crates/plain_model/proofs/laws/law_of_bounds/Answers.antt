use Rattle.plain_model.proofs.Bounds.{law_of_bounds}
use Rattle.plain_model.proofs.laws.law_of_bounds.Goals as goal

pub returns : goal.returns
returns c = law_of_bounds
