use Rattle.notice_laws.proofs.Alone.{law_of_alone}
use Rattle.notice_laws.proofs.place_laws.law_of_alone.Goals as goal

pub returns : goal.returns
returns c = law_of_alone
