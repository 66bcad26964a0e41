use Rattle.mount_laws.proofs.Alters.{law_of_taken_away}
use Rattle.mount_laws.proofs.laws.law_of_taken_away.Goals as goal

pub returns : goal.returns
returns c = law_of_taken_away
