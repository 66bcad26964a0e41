use Rattle.plain_model.proofs.Alike.{alike-hearing}
use Rattle.plain_model.proofs.watch_laws.law_of_alike_hearing.Goals as goal

pub returns : goal.returns
returns g c = alike-hearing g.A.AnswerRule.shows g.I.IdentityMap.of
