use Rattle.mount_laws.proofs.Makes.{law_of_made}
use Rattle.mount_laws.proofs.laws.law_of_made.Goals as goal

pub returns : goal.returns
returns c = law_of_made
