use Rattle.mount_laws.proofs.Places.{law_of_placed_parent}
use Rattle.mount_laws.proofs.laws.law_of_placed_parent.Goals as goal

pub returns : goal.returns
returns c = law_of_placed_parent
