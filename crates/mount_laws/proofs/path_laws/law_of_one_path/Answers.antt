use Rattle.mount_laws.proofs.OnePath.{law_of_one_path}
use Rattle.mount_laws.proofs.path_laws.law_of_one_path.Goals as goal

pub returns : goal.returns
returns c = law_of_one_path
