use Rattle.notice_laws.proofs.Making.{law_of_read}
use Rattle.notice_laws.proofs.call_laws.law_of_read.Goals as goal

pub returns : goal.returns
returns g c = law_of_read g.A.AnswerRule.shows
