use Rattle.mount_laws.proofs.Altered.{law_of_owner_changed}
use Rattle.mount_laws.proofs.laws.law_of_owner_changed.Goals as goal

pub returns : goal.returns
returns c = law_of_owner_changed
