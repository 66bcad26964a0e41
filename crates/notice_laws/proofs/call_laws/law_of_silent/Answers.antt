use Rattle.notice_laws.proofs.Staying.{law_of_silent}
use Rattle.notice_laws.proofs.call_laws.law_of_silent.Goals as goal

pub returns : goal.returns
returns g c = law_of_silent g.A.AnswerRule.shows
