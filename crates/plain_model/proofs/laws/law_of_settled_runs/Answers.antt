use Rattle.plain_model.proofs.Settled.{law_of_settled_runs}
use Rattle.plain_model.proofs.laws.law_of_settled_runs.Goals as goal

pub returns : goal.returns
returns c = law_of_settled_runs
