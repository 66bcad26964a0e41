use Rattle.mount_laws.proofs.Alters.{law_of_placed_leaf}
use Rattle.mount_laws.proofs.laws.law_of_placed_leaf.Goals as goal

pub returns : goal.returns
returns c = law_of_placed_leaf
