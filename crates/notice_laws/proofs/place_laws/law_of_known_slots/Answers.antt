use Rattle.notice_laws.proofs.Slots.{law_of_known_slots}
use Rattle.notice_laws.proofs.place_laws.law_of_known_slots.Goals as goal

pub returns : goal.returns
returns c = law_of_known_slots
