use Rattle.notice_laws.proofs.Making.{law_of_made}
use Rattle.notice_laws.proofs.call_laws.law_of_made.Goals as goal

pub returns : goal.returns
returns g c = law_of_made g.A.AnswerRule.shows
