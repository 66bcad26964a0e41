use Rattle.mount_laws.proofs.Descriptors.{law_of_read}
use Rattle.mount_laws.proofs.handle_laws.law_of_read.Goals as goal

pub returns : goal.returns
returns c = law_of_read
