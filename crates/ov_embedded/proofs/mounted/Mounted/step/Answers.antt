use Rattle.std.proofs.Common.{◌∙◌, sym}
use Rattle.std.proofs.lemmas.Bool.{false≢true}
use Rattle.ov_embedded.proofs.Jobs.{steps_done, steps_gone, steps_short}
use Rattle.ov_embedded.proofs.mounted.Mounted.step.Goals as goal

pub returns-then-not-may_step : goal.returns-then-not-may_step
returns-then-not-may_step c =
    let gone = c.let_go in
    steps_gone c.args.number c.args.self.now gone.new.self c.in-Some.job.now
    (sym c.in-Some.ensures.value)
    (λ may. false≢true (sym c.if-not-may_step.true ∙ c.may_step.ensures.1 may))
    gone.ensures.core gone.ensures.work gone.ensures.gone gone.ensures.others gone.ensures.reply

pub returns-in-Done : goal.returns-in-Done
returns-in-Done c =
    let gone = c.let_go-in-Done in
    steps_done c.args.number c.args.self.now c.advance.new.self gone.new.self c.write.new.self
    c.finished-place.result c.in-Done.reply c.write.result c.in-Done.ensures.step
    c.in-Done.ensures.others gone.ensures.core gone.ensures.work gone.ensures.gone
    gone.ensures.others c.write.ensures.core c.write.ensures.jobs c.finished-place.ensures
    c.write.ensures.frame

pub returns-in-NoMemory : goal.returns-in-NoMemory
returns-in-NoMemory c =
    let gone = c.let_go-in-NoMemory in
    let written = c.write-in-NoMemory in
    steps_short c.args.number c.args.self.now c.advance.new.self gone.new.self written.new.self
    written.result c.in-NoMemory.ensures.step c.in-NoMemory.ensures.others gone.ensures.core
    gone.ensures.work gone.ensures.gone gone.ensures.others written.ensures.core
    written.ensures.jobs written.ensures.frame
