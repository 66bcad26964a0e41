use Rattle.ov_script.proofs.EscapeLaws.{escapes_back}
use Rattle.ov_script.proofs.escape.law_of_escapes.Goals as goal

pub returns : goal.returns
returns c = escapes_back
