use Rattle.mount_laws.proofs.Attributes.{law_of_get_attribute}
use Rattle.mount_laws.proofs.laws.law_of_get_attribute.Goals as goal

pub returns : goal.returns
returns c = law_of_get_attribute
