use Rattle.mount_laws.proofs.Attributes.{law_of_list_attributes}
use Rattle.mount_laws.proofs.laws.law_of_list_attributes.Goals as goal

pub returns : goal.returns
returns c = law_of_list_attributes
