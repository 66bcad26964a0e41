use Rattle.notice_laws.proofs.Slots.{law_of_held_objects}
use Rattle.notice_laws.proofs.place_laws.law_of_held_objects.Goals as goal

pub returns : goal.returns
returns c = law_of_held_objects
