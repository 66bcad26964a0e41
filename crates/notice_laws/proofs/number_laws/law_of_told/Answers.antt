use Rattle.notice_laws.proofs.Told.{law_of_told}
use Rattle.notice_laws.proofs.number_laws.law_of_told.Goals as goal

pub returns : goal.returns
returns c = law_of_told
