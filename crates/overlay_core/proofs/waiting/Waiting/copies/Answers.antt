use Rattle.std.proofs.Common.{refl, sym, ap, ◌∙◌, option_copied}
use Rattle.work_dir.specs.NextSteps.{next_of_file}
use Rattle.mount_calls.specs.Lacks.{may_lack}
use Rattle.overlay_core.specs.Waits.{IsFor}
use Rattle.overlay_core.proofs.Waited.{copies-due, copies-next}
use Rattle.overlay_core.proofs.waiting.Waiting.copies.Goals as goal

pub returns-in-Copy-clause-next : goal.returns-in-Copy-clause-next
returns-in-Copy-clause-next c = λ yes m waits.
    let w = c.args.self.now in
    let j = c.args.job.now in
    let t = option_copied c.args.temp in
    let is : IsFor j w = c.if-not-is_of.ensures refl in
    copies-next m w j t is waits
    (ap (λ b. next_of_file w.source b t w.size) (sym c.begins.ensures) ∙ sym c.in-Copy.ensures.step)

pub returns-in-Copy-clause-due : goal.returns-in-Copy-clause-due
returns-in-Copy-clause-due c = λ yes m waits.
    copies-due m c.args.self.now c.args.job.now (option_copied c.args.temp) waits c.in-Copy.ensures.due

pub returns-in-Copy-clause-may : goal.returns-in-Copy-clause-may
returns-in-Copy-clause-may c = λ yes.
    let is : IsFor c.args.job.now c.args.self.now = c.if-not-is_of.ensures refl in
    ap may_lack is.1
