use Rattle.plain_model.proofs.Opening.{merge-remounts}
use Rattle.plain_model.proofs.laws.law_of_mount.Goals as goal

pub returns : goal.returns
returns c = merge-remounts
