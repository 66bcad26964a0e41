use Rattle.mount_laws.proofs.Lists.{law_of_bad_descriptors}
use Rattle.mount_laws.proofs.laws.law_of_bad_descriptors.Goals as goal

pub returns : goal.returns
returns c = law_of_bad_descriptors
