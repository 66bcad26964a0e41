use Rattle.mount_laws.proofs.Removes.{law_of_unlinked}
use Rattle.mount_laws.proofs.laws.law_of_unlinked.Goals as goal

pub returns : goal.returns
returns c = law_of_unlinked
