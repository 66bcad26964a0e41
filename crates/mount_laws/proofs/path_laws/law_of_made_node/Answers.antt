use Rattle.mount_laws.proofs.Gone.{law_of_made_node}
use Rattle.mount_laws.proofs.path_laws.law_of_made_node.Goals as goal

pub returns : goal.returns
returns c = law_of_made_node
