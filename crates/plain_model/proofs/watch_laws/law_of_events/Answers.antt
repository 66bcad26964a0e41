use Rattle.plain_model.proofs.Told.{law_of_events}
use Rattle.plain_model.proofs.watch_laws.law_of_events.Goals as goal

pub returns : goal.returns
returns c = law_of_events
