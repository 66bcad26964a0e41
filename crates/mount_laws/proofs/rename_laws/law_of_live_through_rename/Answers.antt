use Rattle.mount_laws.proofs.RenamedOpen.{law_of_live_through_rename}
use Rattle.mount_laws.proofs.rename_laws.law_of_live_through_rename.Goals as goal

pub returns : goal.returns
returns c = law_of_live_through_rename
