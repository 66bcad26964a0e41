use Rattle.notice_laws.proofs.Numbers.{law_of_numbers}
use Rattle.notice_laws.proofs.number_laws.law_of_numbers.Goals as goal

pub returns : goal.returns
returns c = law_of_numbers
