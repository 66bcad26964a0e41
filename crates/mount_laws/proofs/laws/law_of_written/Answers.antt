use Rattle.mount_laws.proofs.Written.{law_of_written}
use Rattle.mount_laws.proofs.laws.law_of_written.Goals as goal

pub returns : goal.returns
returns c = law_of_written
