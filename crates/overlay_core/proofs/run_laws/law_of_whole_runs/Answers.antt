use Rattle.overlay_core.proofs.WholeRuns.{law_of_whole_runs}
use Rattle.overlay_core.proofs.run_laws.law_of_whole_runs.Goals as goal

pub returns : goal.returns
returns g c = law_of_whole_runs g.F.Callback g.R.Rule
