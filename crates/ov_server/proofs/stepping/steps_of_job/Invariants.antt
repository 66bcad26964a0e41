use Rattle.overlay_core.specs.declared.turn.Turn.TheVariants.{More}
use Rattle.ov_server.specs.Deeds.{StepsJob}
use Rattle.ov_server.proofs.stepping.steps_of_job.Given as goal

-- the steps so far were made, and there are more
abbrev pub invariant-loop-step : goal.invariant-loop-step
invariant-loop-step g l = StepsJob l.initial.core l.initial.job l._step l.core l.job More
