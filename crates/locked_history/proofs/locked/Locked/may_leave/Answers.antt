use Rattle.std.proofs.Common.{◌∙◌, sym}
use Rattle.std.proofs.lemmas.Bool.{eq-eqb, eqb-true}
use Rattle.locked_history.proofs.locked.Locked.may_leave.Goals as goal

pub returns-then-is_due : goal.returns-then-is_due
returns-then-is_due g c = (
  λ e. (c.is_due.ensures.0 c.if-is_due.true, sym c.open_jobs.ensures ∙ eqb-true _ _ e),
  λ d. eq-eqb _ _ (c.open_jobs.ensures ∙ d.1),
)
