use Rattle.mount_laws.proofs.Sorts.{law_of_sorts}
use Rattle.mount_laws.proofs.path_laws.law_of_sorts.Goals as goal

pub returns : goal.returns
returns c = law_of_sorts
