use Rattle.mount_laws.proofs.Outlive.{law_of_live_through_deleted}
use Rattle.mount_laws.proofs.laws.law_of_live_through_deleted.Goals as goal

pub returns : goal.returns
returns c = law_of_live_through_deleted
