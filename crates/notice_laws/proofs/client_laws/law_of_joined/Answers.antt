use Rattle.notice_laws.proofs.Clients.{law_of_joined}
use Rattle.notice_laws.proofs.client_laws.law_of_joined.Goals as goal

pub returns : goal.returns
returns c = law_of_joined
