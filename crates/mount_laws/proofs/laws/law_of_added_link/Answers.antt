use Rattle.mount_laws.proofs.LinkedOpen.{law_of_added_link}
use Rattle.mount_laws.proofs.laws.law_of_added_link.Goals as goal

pub returns : goal.returns
returns c = law_of_added_link
