use Rattle.notice_laws.proofs.ArmedWatches.{law_of_taken}
use Rattle.notice_laws.proofs.client_laws.law_of_taken.Goals as goal

pub returns : goal.returns
returns g c = law_of_taken g.A.AnswerRule.shows
