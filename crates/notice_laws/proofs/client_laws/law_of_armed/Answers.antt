use Rattle.notice_laws.proofs.ArmedWatches.{law_of_armed}
use Rattle.notice_laws.proofs.client_laws.law_of_armed.Goals as goal

pub returns : goal.returns
returns g c = law_of_armed g.A.AnswerRule.shows
