use Rattle.mount_laws.proofs.Renamed.{law_of_renamed}
use Rattle.mount_laws.proofs.rename_laws.law_of_renamed.Goals as goal

pub returns : goal.returns
returns c = law_of_renamed
