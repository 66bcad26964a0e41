use Rattle.notice_laws.proofs.Nowhere.{law_of_nowhere}
use Rattle.notice_laws.proofs.place_laws.law_of_nowhere.Goals as goal

pub returns : goal.returns
returns c = law_of_nowhere
