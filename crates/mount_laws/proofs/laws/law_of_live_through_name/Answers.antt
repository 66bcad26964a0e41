use Rattle.mount_laws.proofs.LinkedOpen.{law_of_live_through_name}
use Rattle.mount_laws.proofs.laws.law_of_live_through_name.Goals as goal

pub returns : goal.returns
returns c = law_of_live_through_name
