use Rattle.mount_laws.proofs.Outlive.{law_of_live_through_rmdir}
use Rattle.mount_laws.proofs.laws.law_of_live_through_rmdir.Goals as goal

pub returns : goal.returns
returns c = law_of_live_through_rmdir
