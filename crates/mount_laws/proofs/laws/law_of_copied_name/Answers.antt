use Rattle.mount_laws.proofs.Naming.{law_of_copied_name}
use Rattle.mount_laws.proofs.laws.law_of_copied_name.Goals as goal

pub returns : goal.returns
returns c = law_of_copied_name
