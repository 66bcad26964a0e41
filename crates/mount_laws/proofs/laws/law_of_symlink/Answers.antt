use Rattle.mount_laws.proofs.Refusing.{law_of_symlink}
use Rattle.mount_laws.proofs.laws.law_of_symlink.Goals as goal

pub returns : goal.returns
returns c = law_of_symlink
