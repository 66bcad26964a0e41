use Rattle.mount_laws.proofs.Renaming.{law_of_same_rename}
use Rattle.mount_laws.proofs.rename_laws.law_of_same_rename.Goals as goal

pub returns : goal.returns
returns c = law_of_same_rename
