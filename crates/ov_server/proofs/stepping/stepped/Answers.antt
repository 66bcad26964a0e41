use Rattle.std.proofs.Common.{◌∙◌, sym}
use Rattle.ov_server.proofs.Clients.{step_plays}
use Rattle.ov_server.proofs.stepping.stepped.Goals as goal

pub returns-then-is_calling-clause-ok : goal.returns-then-is_calling-clause-ok
returns-then-is_calling-clause-ok g c =
    step_plays c.args.stage.now c.step_answer.new.stage c.args.client c.args.steps c.step_answer.result c.step_answer.ensures.keeps (sym c.is_calling.ensures ∙ c.if-is_calling.true) c.step_answer.ensures.goes c.step_answer.ensures.others
