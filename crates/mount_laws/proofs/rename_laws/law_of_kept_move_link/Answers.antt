use Rattle.mount_laws.proofs.RenamedOpen.{law_of_kept_move_link}
use Rattle.mount_laws.proofs.rename_laws.law_of_kept_move_link.Goals as goal

pub returns : goal.returns
returns c = law_of_kept_move_link
