use Rattle.notice_laws.proofs.Clients.{law_of_muted}
use Rattle.notice_laws.proofs.client_laws.law_of_muted.Goals as goal

pub returns : goal.returns
returns c = law_of_muted
