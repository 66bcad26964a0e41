use Rattle.notice_laws.proofs.OpenTold.{law_of_opened}
use Rattle.notice_laws.proofs.open_laws.law_of_opened.Goals as goal

pub returns : goal.returns
returns g c = law_of_opened g.A.AnswerRule.shows
