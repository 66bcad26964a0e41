use Rattle.plain_model.proofs.Moves.{law_of_moves}
use Rattle.plain_model.proofs.laws.law_of_moves.Goals as goal

pub returns : goal.returns
returns c = law_of_moves
