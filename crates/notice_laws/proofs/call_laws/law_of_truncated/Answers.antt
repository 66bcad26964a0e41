use Rattle.notice_laws.proofs.Writing.{law_of_truncated}
use Rattle.notice_laws.proofs.call_laws.law_of_truncated.Goals as goal

pub returns : goal.returns
returns g c = law_of_truncated g.A.AnswerRule.shows
