use Rattle.mount_laws.proofs.Moving.{law_of_moved_name}
use Rattle.mount_laws.proofs.rename_laws.law_of_moved_name.Goals as goal

pub returns : goal.returns
returns c = law_of_moved_name
