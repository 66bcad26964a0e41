use Rattle.mount_laws.proofs.Removed.{law_of_list_removed}
use Rattle.mount_laws.proofs.laws.law_of_list_removed.Goals as goal

pub returns : goal.returns
returns c = law_of_list_removed
