use Rattle.mount_laws.proofs.OneName.{law_of_one_name}
use Rattle.mount_laws.proofs.path_laws.law_of_one_name.Goals as goal

pub returns : goal.returns
returns c = law_of_one_name
