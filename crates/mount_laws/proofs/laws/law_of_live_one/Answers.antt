use Rattle.mount_laws.proofs.OpenFiles.{law_of_live_one}
use Rattle.mount_laws.proofs.laws.law_of_live_one.Goals as goal

pub returns : goal.returns
returns c = law_of_live_one
