use Rattle.std.proofs.Common.{Ok}
use Rattle.ov_base.specs.declared.reply.Reply.TheVariants.{Refused}
use Rattle.mount_calls.specs.Plans.{call_of}
use Rattle.overlay_core.proofs.StepsMade.{ended-allowed, ended-over, made-planned, made-refused}
use Rattle.overlay_core.proofs.finishing.finish.Goals as goal

pub returns-in-Ok-clause-makes : goal.returns-in-Ok-clause-makes
returns-in-Ok-clause-makes g c = λ work next t last temps.
    made-planned g.R.Rule.shows c.args.read_only c.args.watched.now c.carry_out-outcome.new.self
    work c.args.job.now c.ended.new.job next t last temps c.client.result
    (call_of c.in-Ok.plan) c.client.ensures c.in-Ok.ensures.call c.carry_out-outcome.result
    c.ended.result c.ended.ensures.ends c.carry_out-outcome.ensures c.requires.may
    c.in-Ok.ensures.reads

pub returns-in-Err-clause-makes : goal.returns-in-Err-clause-makes
returns-in-Err-clause-makes g c = λ work next t last temps.
    made-refused g.R.Rule.shows c.args.read_only c.args.watched.now work c.args.job.now
    c.ended-in-Err.new.job next t last temps c.in-Err.errno c.ended-in-Err.result
    c.ended-in-Err.ensures.ends c.requires.attached c.in-Err.ensures.refused

pub returns-in-Ok-clause-over : goal.returns-in-Ok-clause-over
returns-in-Ok-clause-over g c =
    ended-over c.ended.new.job c.carry_out-outcome.result c.ended.result c.ended.ensures.ends

pub returns-in-Err-clause-over : goal.returns-in-Err-clause-over
returns-in-Err-clause-over g c =
    ended-over c.ended-in-Err.new.job (Ok (Refused c.in-Err.errno)) c.ended-in-Err.result
    c.ended-in-Err.ensures.ends

pub returns-in-Ok-clause-allowed : goal.returns-in-Ok-clause-allowed
returns-in-Ok-clause-allowed g c = λ is. c.in-Ok.ensures.allowed

pub returns-in-Err-clause-allowed : goal.returns-in-Err-clause-allowed
returns-in-Err-clause-allowed g c =
    ended-allowed c.ended-in-Err.new.job (Ok (Refused c.in-Err.errno)) c.ended-in-Err.result _
    c.ended-in-Err.ensures.ends tt
