use Rattle.mount_calls.proofs.Lacking as lacking
use Rattle.mount_calls.proofs.lacks.law_of_needs.Goals as goal

pub returns : goal.returns
returns c = lacking.law_of_needs
