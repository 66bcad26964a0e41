use Rattle.notice_laws.proofs.LastNames.{law_of_upper}
use Rattle.notice_laws.proofs.place_laws.law_of_upper.Goals as goal

pub returns : goal.returns
returns c = law_of_upper
