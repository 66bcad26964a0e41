use Rattle.plain_model.proofs.Kept.{law_of_names}
use Rattle.plain_model.proofs.laws.law_of_names.Goals as goal

pub returns : goal.returns
returns c = law_of_names
