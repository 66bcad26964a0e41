use Rattle.notice_laws.proofs.Unlinked.{law_of_unlinked}
use Rattle.notice_laws.proofs.call_laws.law_of_unlinked.Goals as goal

pub returns : goal.returns
returns g c = law_of_unlinked g.A.AnswerRule.shows
