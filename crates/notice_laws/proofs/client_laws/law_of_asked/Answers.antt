use Rattle.notice_laws.proofs.Clients.{law_of_asked}
use Rattle.notice_laws.proofs.client_laws.law_of_asked.Goals as goal

pub returns : goal.returns
returns c = law_of_asked
