use Rattle.mount_laws.proofs.Opening.{law_of_open_refusal}
use Rattle.mount_laws.proofs.handle_laws.law_of_open_refusal.Goals as goal

pub returns : goal.returns
returns c = law_of_open_refusal
