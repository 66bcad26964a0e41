use Rattle.mount_laws.proofs.Attributes.{law_of_chown}
use Rattle.mount_laws.proofs.laws.law_of_chown.Goals as goal

pub returns : goal.returns
returns c = law_of_chown
