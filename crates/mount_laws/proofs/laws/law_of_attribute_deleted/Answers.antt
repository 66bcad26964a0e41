use Rattle.mount_laws.proofs.Altered.{law_of_attribute_deleted}
use Rattle.mount_laws.proofs.laws.law_of_attribute_deleted.Goals as goal

pub returns : goal.returns
returns c = law_of_attribute_deleted
