use Rattle.mount_laws.proofs.CopiedMoves.{law_of_thin_moves}
use Rattle.mount_laws.proofs.rename_laws.law_of_thin_moves.Goals as goal

pub returns : goal.returns
returns c = law_of_thin_moves
