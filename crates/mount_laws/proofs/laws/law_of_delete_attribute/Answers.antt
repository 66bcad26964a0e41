use Rattle.mount_laws.proofs.Attributes.{law_of_delete_attribute}
use Rattle.mount_laws.proofs.laws.law_of_delete_attribute.Goals as goal

pub returns : goal.returns
returns c = law_of_delete_attribute
