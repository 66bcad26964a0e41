use Rattle.plain_model.proofs.Opened.{law_of_merge}
use Rattle.plain_model.proofs.laws.law_of_merge.Goals as goal

pub returns : goal.returns
returns c = law_of_merge
