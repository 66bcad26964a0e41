use Rattle.mount_laws.proofs.Opens.{law_of_open}
use Rattle.mount_laws.proofs.laws.law_of_open.Goals as goal

pub returns : goal.returns
returns c = law_of_open
