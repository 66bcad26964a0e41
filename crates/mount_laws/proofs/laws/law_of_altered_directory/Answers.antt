use Rattle.mount_laws.proofs.Changed.{law_of_altered_directory}
use Rattle.mount_laws.proofs.laws.law_of_altered_directory.Goals as goal

pub returns : goal.returns
returns c = law_of_altered_directory
