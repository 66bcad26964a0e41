use Rattle.notice_laws.proofs.LastNames.{law_of_last_name}
use Rattle.notice_laws.proofs.place_laws.law_of_last_name.Goals as goal

pub returns : goal.returns
returns c = law_of_last_name
