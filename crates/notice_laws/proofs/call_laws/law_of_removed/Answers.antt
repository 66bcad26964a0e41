use Rattle.notice_laws.proofs.Unlinked.{law_of_removed}
use Rattle.notice_laws.proofs.call_laws.law_of_removed.Goals as goal

pub returns : goal.returns
returns g c = law_of_removed g.A.AnswerRule.shows
