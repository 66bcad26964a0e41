use Rattle.notice_laws.proofs.ArmedWatches.{law_of_disarmed}
use Rattle.notice_laws.proofs.client_laws.law_of_disarmed.Goals as goal

pub returns : goal.returns
returns g c = law_of_disarmed g.A.AnswerRule.shows
