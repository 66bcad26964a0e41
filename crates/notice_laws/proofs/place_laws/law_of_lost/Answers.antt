use Rattle.notice_laws.proofs.Nowhere.{law_of_lost}
use Rattle.notice_laws.proofs.place_laws.law_of_lost.Goals as goal

pub returns : goal.returns
returns c = law_of_lost
