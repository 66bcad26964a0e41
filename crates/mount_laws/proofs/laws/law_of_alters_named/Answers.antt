use Rattle.mount_laws.proofs.Outlive.{law_of_alters_named}
use Rattle.mount_laws.proofs.laws.law_of_alters_named.Goals as goal

pub returns : goal.returns
returns c = law_of_alters_named
