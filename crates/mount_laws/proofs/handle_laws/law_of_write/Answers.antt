use Rattle.mount_laws.proofs.Descriptors.{law_of_write}
use Rattle.mount_laws.proofs.handle_laws.law_of_write.Goals as goal

pub returns : goal.returns
returns c = law_of_write
