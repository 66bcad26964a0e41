use Rattle.notice_laws.proofs.Closing.{law_of_closed}
use Rattle.notice_laws.proofs.open_laws.law_of_closed.Goals as goal

pub returns : goal.returns
returns g c = law_of_closed g.A.AnswerRule.shows
