use Rattle.overlay_core.proofs.WholeRuns.{law_of_chains, law_of_dropped, law_of_schedules, law_of_turns}
use Rattle.overlay_core.proofs.run_laws.law_of_links.Goals as goal

pub returns-clause-turns : goal.returns-clause-turns
returns-clause-turns g c = law_of_turns g.F.Callback g.R.Rule

pub returns-clause-dropped : goal.returns-clause-dropped
returns-clause-dropped g c = law_of_dropped g.F.Callback g.R.Rule

pub returns-clause-schedules : goal.returns-clause-schedules
returns-clause-schedules g c = law_of_schedules g.F.Callback g.R.Rule

pub returns-clause-chains : goal.returns-clause-chains
returns-clause-chains g c = law_of_chains g.F.Callback g.R.Rule
