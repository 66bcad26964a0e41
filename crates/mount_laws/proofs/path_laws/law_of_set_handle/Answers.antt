use Rattle.mount_laws.proofs.Handling.{law_of_set_handle}
use Rattle.mount_laws.proofs.path_laws.law_of_set_handle.Goals as goal

pub returns : goal.returns
returns c = law_of_set_handle
