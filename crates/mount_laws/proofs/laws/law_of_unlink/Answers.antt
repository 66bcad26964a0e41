use Rattle.mount_laws.proofs.Refusing.{law_of_unlink}
use Rattle.mount_laws.proofs.laws.law_of_unlink.Goals as goal

pub returns : goal.returns
returns c = law_of_unlink
