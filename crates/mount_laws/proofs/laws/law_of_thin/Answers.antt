use Rattle.mount_laws.proofs.Alters.{law_of_thin}
use Rattle.mount_laws.proofs.laws.law_of_thin.Goals as goal

pub returns : goal.returns
returns c = law_of_thin
