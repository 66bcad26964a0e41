use Rattle.mount_laws.proofs.Opening.{law_of_opened_for_reading}
use Rattle.mount_laws.proofs.handle_laws.law_of_opened_for_reading.Goals as goal

pub returns : goal.returns
returns c = law_of_opened_for_reading
