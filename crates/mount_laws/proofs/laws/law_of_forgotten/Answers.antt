use Rattle.mount_laws.proofs.Written.{law_of_forgotten}
use Rattle.mount_laws.proofs.laws.law_of_forgotten.Goals as goal

pub returns : goal.returns
returns c = law_of_forgotten
