use Rattle.std.proofs.Common.{◌+◌, arith}
use Rattle.ov_server.proofs.JobSteps.{fewer, one_more}
use Rattle.ov_server.proofs.stepping.steps_of_job.Goals as goal

pub returns-in_default : goal.returns-in_default
returns-in_default g c =
    let made = one_more c.args.core.now c.loop-step.core c.advance.new.self c.args.job.now c.loop-step.job c.advance.new.job c.loop-step._step c.loop-step.invariant c.advance.ensures.job c.advance.ensures.steps c.advance.result c.advance.ensures.turn c.advance.ensures.finished c.advance.ensures.clients c.advance.ensures.kept in
    fewer c.args.core.now c.advance.new.self c.args.job.now c.advance.new.job (c.loop-step._step + 1) c.args.steps c.advance.result made (omega (arith, c.loop-step-test.true)) c.in_default.not-More
