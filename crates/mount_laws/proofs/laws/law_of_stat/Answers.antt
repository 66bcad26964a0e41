use Rattle.mount_laws.proofs.Looks.{law_of_stat}
use Rattle.mount_laws.proofs.laws.law_of_stat.Goals as goal

pub returns : goal.returns
returns c = law_of_stat
