-- What becomes of the job of a step that is refused.
use Rattle.std.proofs.Common.{◌≡◌, ℕ, List, Option, None, refl, inl}
use Rattle.overlay_core.specs.declared.job.Job.{Job}
use Rattle.overlay_core.specs.declared.mounted.Core.{Core}
use Rattle.watch_table.specs.declared.hook.Callback.{Ghosts as Callback}
use Rattle.watch_table.specs.declared.hook.Rule.{Ghosts as Rule}
use Rattle.locked_history.specs.declared.entry.Entry.{Entry}
use Rattle.locked_history.specs.declared.session.Refused.{Refused as Why}
use Rattle.locked_history.specs.declared.session.Refused.TheVariants.{Memory, Full, Session, Stopped}
use Rattle.locked_history.specs.Steps.{GivesUp, IsCause, Refuses}

-- a step that isn't made gives the job up
pub refused_step : {F G A : Type 0} {asks : Callback F} {rule : Rule G} (es : List Entry) (old : Core F G asks rule) (job : Job) (room : Option A) (new : Core F G asks rule) (why : Why) (c n : ℕ) → GivesUp old job new → IsCause es old why c n → (why ≡ Memory → room ≡ None) → Refuses old job room new why
refused_step es old job room new Session c n given cause none = given
refused_step es old job room new Full c n given cause none = given
refused_step es old job room new Memory c n given cause none = inl (none refl, given)
refused_step es old job room new Stopped c n given cause none = absurd cause
