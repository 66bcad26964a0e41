use Rattle.plain_model.proofs.Instances.{instances-kept}
use Rattle.plain_model.proofs.watch_laws.law_of_instances.Goals as goal

pub returns : goal.returns
returns g c = instances-kept g.A.AnswerRule.shows
