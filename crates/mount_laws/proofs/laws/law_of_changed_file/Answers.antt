use Rattle.mount_laws.proofs.Filling.{law_of_changed_file}
use Rattle.mount_laws.proofs.laws.law_of_changed_file.Goals as goal

pub returns : goal.returns
returns c = law_of_changed_file
