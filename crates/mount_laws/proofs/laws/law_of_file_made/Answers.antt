use Rattle.mount_laws.proofs.Files.{law_of_file_made}
use Rattle.mount_laws.proofs.laws.law_of_file_made.Goals as goal

pub returns : goal.returns
returns c = law_of_file_made
