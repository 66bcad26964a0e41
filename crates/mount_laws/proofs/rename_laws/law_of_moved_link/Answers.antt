use Rattle.mount_laws.proofs.RenamedOpen.{law_of_moved_link}
use Rattle.mount_laws.proofs.rename_laws.law_of_moved_link.Goals as goal

pub returns : goal.returns
returns c = law_of_moved_link
