use Rattle.mount_laws.proofs.Linked.{law_of_name_made}
use Rattle.mount_laws.proofs.laws.law_of_name_made.Goals as goal

pub returns : goal.returns
returns c = law_of_name_made
