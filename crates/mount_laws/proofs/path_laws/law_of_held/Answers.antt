use Rattle.mount_laws.proofs.Handling.{law_of_held}
use Rattle.mount_laws.proofs.path_laws.law_of_held.Goals as goal

pub returns : goal.returns
returns c = law_of_held
