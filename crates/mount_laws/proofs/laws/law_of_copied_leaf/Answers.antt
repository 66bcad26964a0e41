use Rattle.mount_laws.proofs.Changed.{law_of_copied_leaf}
use Rattle.mount_laws.proofs.laws.law_of_copied_leaf.Goals as goal

pub returns : goal.returns
returns c = law_of_copied_leaf
