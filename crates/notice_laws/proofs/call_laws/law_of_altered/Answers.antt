use Rattle.notice_laws.proofs.Lifting.{law_of_altered}
use Rattle.notice_laws.proofs.call_laws.law_of_altered.Goals as goal

pub returns : goal.returns
returns g c = law_of_altered g.A.AnswerRule.shows
