use Rattle.mount_laws.proofs.StayOpen.{law_of_live_through_link}
use Rattle.mount_laws.proofs.laws.law_of_live_through_link.Goals as goal

pub returns : goal.returns
returns c = law_of_live_through_link
