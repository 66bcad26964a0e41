use Rattle.mount_laws.proofs.Attributes.{law_of_chmod}
use Rattle.mount_laws.proofs.laws.law_of_chmod.Goals as goal

pub returns : goal.returns
returns c = law_of_chmod
