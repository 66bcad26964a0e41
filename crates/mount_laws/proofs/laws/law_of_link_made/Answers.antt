use Rattle.mount_laws.proofs.Links.{law_of_link_made}
use Rattle.mount_laws.proofs.laws.law_of_link_made.Goals as goal

pub returns : goal.returns
returns c = law_of_link_made
