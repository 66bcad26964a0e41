use Rattle.mount_laws.proofs.Descriptors.{law_of_handle_close}
use Rattle.mount_laws.proofs.handle_laws.law_of_handle_close.Goals as goal

pub returns : goal.returns
returns c = law_of_handle_close
