use Rattle.notice_laws.proofs.Moved.{law_of_moved}
use Rattle.notice_laws.proofs.call_laws.law_of_moved.Goals as goal

pub returns : goal.returns
returns g c = law_of_moved g.A.AnswerRule.shows
