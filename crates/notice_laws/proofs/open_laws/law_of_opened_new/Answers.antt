use Rattle.notice_laws.proofs.OpenNewTold.{law_of_opened_new}
use Rattle.notice_laws.proofs.open_laws.law_of_opened_new.Goals as goal

pub returns : goal.returns
returns g c = law_of_opened_new g.A.AnswerRule.shows
