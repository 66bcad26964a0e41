use Rattle.plain_model.proofs.Instances.{instances-of-runs}
use Rattle.plain_model.proofs.watch_laws.law_of_instances_of_runs.Goals as goal

pub returns : goal.returns
returns g c = instances-of-runs g.A.AnswerRule.shows
