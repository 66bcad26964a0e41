use Rattle.notice_laws.proofs.Staying.{law_of_unmoved}
use Rattle.notice_laws.proofs.call_laws.law_of_unmoved.Goals as goal

pub returns : goal.returns
returns g c = law_of_unmoved g.A.AnswerRule.shows
