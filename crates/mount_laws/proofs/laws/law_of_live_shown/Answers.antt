use Rattle.mount_laws.proofs.OpenFiles.{law_of_live_shown}
use Rattle.mount_laws.proofs.laws.law_of_live_shown.Goals as goal

pub returns : goal.returns
returns c = law_of_live_shown
