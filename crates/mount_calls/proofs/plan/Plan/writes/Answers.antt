use Rattle.std.proofs.Common.{◌||◌, is_none, sym, ap, ◌∙◌}
use Rattle.std.proofs.lemmas.Bool.{false≢true}
use Rattle.mount_calls.proofs.WriteAccess.{others-write, plan-writes, plan_writes, told-none}
use Rattle.mount_calls.proofs.plan.Plan.writes.Goals as goal

pub returns-else-flags-clause-writes : goal.returns-else-flags-clause-writes
returns-else-flags-clause-writes c = λ m client h s st.
    told-none c.is_none.result c.in-Open.judged.top (sym c.is_none.ensures)
    ∙ sym (ap (λ b. b || is_none c.in-Open.judged.top) c.if-flags.false)
    ∙ sym (ap plan_writes c.in-Open.is) ∙ plan-writes m client c.args.self.now h s st

pub returns-in-Nothing-clause-writes : goal.returns-in-Nothing-clause-writes
returns-in-Nothing-clause-writes c = λ m client h s st.
    sym (ap plan_writes c.in-Nothing.is) ∙ plan-writes m client c.args.self.now h s st

pub returns-in_default : goal.returns-in_default
returns-in_default c = record {
  writes = λ m client h s st.
      others-write c.args.self.now c.in_default.not-Open c.in_default.not-Nothing
      ∙ plan-writes m client c.args.self.now h s st;
  none = λ off. absurd (false≢true (sym off));
}
