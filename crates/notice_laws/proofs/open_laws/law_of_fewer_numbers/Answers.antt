use Rattle.notice_laws.proofs.FewerObjects.{law_of_fewer_numbers}
use Rattle.notice_laws.proofs.open_laws.law_of_fewer_numbers.Goals as goal

pub returns : goal.returns
returns c = law_of_fewer_numbers
