use Rattle.plain_model.proofs.Blank.{law_of_blank}
use Rattle.plain_model.proofs.laws.law_of_blank.Goals as goal

pub returns : goal.returns
returns c = law_of_blank
