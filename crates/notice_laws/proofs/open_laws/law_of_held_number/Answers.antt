use Rattle.notice_laws.proofs.GivenNumbers.{law_of_held_number}
use Rattle.notice_laws.proofs.open_laws.law_of_held_number.Goals as goal

pub returns : goal.returns
returns c = law_of_held_number
