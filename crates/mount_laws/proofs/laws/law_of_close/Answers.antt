use Rattle.mount_laws.proofs.Lists.{law_of_close}
use Rattle.mount_laws.proofs.laws.law_of_close.Goals as goal

pub returns : goal.returns
returns c = law_of_close
