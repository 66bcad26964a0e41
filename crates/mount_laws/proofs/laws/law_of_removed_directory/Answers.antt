use Rattle.mount_laws.proofs.Removes.{law_of_removed_directory}
use Rattle.mount_laws.proofs.laws.law_of_removed_directory.Goals as goal

pub returns : goal.returns
returns c = law_of_removed_directory
