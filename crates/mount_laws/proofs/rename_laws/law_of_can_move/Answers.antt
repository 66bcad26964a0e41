use Rattle.mount_laws.proofs.CanMove.{law_of_can_move}
use Rattle.mount_laws.proofs.rename_laws.law_of_can_move.Goals as goal

pub returns : goal.returns
returns c = law_of_can_move
