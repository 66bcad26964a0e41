use Rattle.mount_laws.proofs.CopiedMoves.{law_of_same_move}
use Rattle.mount_laws.proofs.rename_laws.law_of_same_move.Goals as goal

pub returns : goal.returns
returns c = law_of_same_move
