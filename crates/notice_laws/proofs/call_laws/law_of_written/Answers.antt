use Rattle.notice_laws.proofs.Writing.{law_of_written}
use Rattle.notice_laws.proofs.call_laws.law_of_written.Goals as goal

pub returns : goal.returns
returns g c = law_of_written g.A.AnswerRule.shows
