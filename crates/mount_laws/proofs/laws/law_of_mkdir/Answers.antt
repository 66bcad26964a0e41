use Rattle.mount_laws.proofs.Looks.{law_of_mkdir}
use Rattle.mount_laws.proofs.laws.law_of_mkdir.Goals as goal

pub returns : goal.returns
returns c = law_of_mkdir
