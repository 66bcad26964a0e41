use Rattle.mount_laws.proofs.Seeks.{law_of_seek}
use Rattle.mount_laws.proofs.laws.law_of_seek.Goals as goal

pub returns : goal.returns
returns c = law_of_seek
