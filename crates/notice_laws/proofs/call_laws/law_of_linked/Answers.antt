use Rattle.notice_laws.proofs.Lifting.{law_of_linked}
use Rattle.notice_laws.proofs.call_laws.law_of_linked.Goals as goal

pub returns : goal.returns
returns g c = law_of_linked g.A.AnswerRule.shows
