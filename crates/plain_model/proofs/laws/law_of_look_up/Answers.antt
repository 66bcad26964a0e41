use Rattle.plain_model.proofs.LookUp.{law_of_look_up}
use Rattle.plain_model.proofs.laws.law_of_look_up.Goals as goal

pub returns : goal.returns
returns c = law_of_look_up
