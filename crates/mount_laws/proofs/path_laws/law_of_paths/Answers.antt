use Rattle.mount_laws.proofs.Leading.{law_of_paths}
use Rattle.mount_laws.proofs.path_laws.law_of_paths.Goals as goal

pub returns : goal.returns
returns c = law_of_paths
