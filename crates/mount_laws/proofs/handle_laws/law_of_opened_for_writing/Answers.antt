use Rattle.mount_laws.proofs.Opening.{law_of_opened_for_writing}
use Rattle.mount_laws.proofs.handle_laws.law_of_opened_for_writing.Goals as goal

pub returns : goal.returns
returns c = law_of_opened_for_writing
