use Rattle.mount_laws.proofs.Moving.{law_of_moved_directory}
use Rattle.mount_laws.proofs.rename_laws.law_of_moved_directory.Goals as goal

pub returns : goal.returns
returns c = law_of_moved_directory
