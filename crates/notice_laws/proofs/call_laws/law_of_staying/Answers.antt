use Rattle.notice_laws.proofs.Staying.{law_of_staying}
use Rattle.notice_laws.proofs.call_laws.law_of_staying.Goals as goal

pub returns : goal.returns
returns c = law_of_staying
