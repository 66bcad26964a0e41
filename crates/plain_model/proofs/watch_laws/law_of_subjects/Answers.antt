use Rattle.plain_model.proofs.Told.{law_of_subjects}
use Rattle.plain_model.proofs.watch_laws.law_of_subjects.Goals as goal

pub returns : goal.returns
returns c = law_of_subjects
