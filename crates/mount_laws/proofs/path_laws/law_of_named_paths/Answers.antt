use Rattle.mount_laws.proofs.NamedPaths.{law_of_named_paths}
use Rattle.mount_laws.proofs.path_laws.law_of_named_paths.Goals as goal

pub returns : goal.returns
returns c = law_of_named_paths
