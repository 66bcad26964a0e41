use Rattle.mount_laws.proofs.Opens.{law_of_directories}
use Rattle.mount_laws.proofs.laws.law_of_directories.Goals as goal

pub returns : goal.returns
returns c = law_of_directories
