-- When a guarded step is made, and why it is not.
use Rattle.std.specs.Prelude.{◌≡◌, ℕ, ◌<◌, ◌^◌, List, Option, Some, None, Result, Ok, Err, cond, length, nat_lt}
use Rattle.ov_base.specs.Calls.{Call}
use Rattle.ov_base.specs.declared.errno.Errno.{Errno}
use Rattle.ov_base.specs.declared.errno.Errno.TheVariants.{EINVAL, ENFILE, ENOSPC}
use Rattle.overlay_core.specs.Jobs.{Advances}
use Rattle.overlay_core.specs.Views.{client_count}
use Rattle.overlay_core.specs.declared.job.Job.{Job}
use Rattle.overlay_core.specs.declared.job.Standing.TheVariants.{Open}
use Rattle.overlay_core.specs.declared.mounted.Core.{Core}
use Rattle.overlay_core.specs.declared.turn.Turn.TheVariants as turns
use Rattle.watch_table.specs.declared.hook.Callback.{Ghosts as Callback}
use Rattle.watch_table.specs.declared.hook.Rule.{Ghosts as Rule}
use Rattle.locked_history.specs.declared.entry.Entry.{Entry}
use Rattle.locked_history.specs.declared.session.Refused.{Refused as Why}
use Rattle.locked_history.specs.declared.session.Refused.TheVariants.{Memory, Full, Session, Stopped}
use Rattle.locked_history.specs.Steps.{GivesUp, IsDue}
use Rattle.endless_mount.specs.declared.recorded.Answered.{Answered}
use Rattle.endless_mount.specs.declared.recorded.Pending.{Pending}
use Rattle.endless_mount.specs.declared.recorded.Pending.TheVariants.{More, Refused}

-- the history has fewer than 2^61 entries
abbrev pub HasPlace : List Entry → Type 0
HasPlace es = length es < 2 ^ 61

-- a call that goes on is the same call of the same client, and still open
abbrev pub IsStill : Pending → ℕ → Call → Type 0
IsStill (More job) c call = (job.client ≡ c) × (job.call ≡ call) × (job.standing ≡ Open)
IsStill (Refused why) c call = Unit {0}

module _ {F G : Type 0} {asks : Callback F} {rule : Rule G} (es : List Entry) (core : Core F G asks rule) where
  -- why a step is refused: the session isn't due; it is, and there is no place; or memory ran out
  abbrev pub IsCause : Why → ℕ → ℕ → Type 0
  IsCause Session c n = IsDue es core c n → ⊥
  IsCause Full c n = IsDue es core c n × (HasPlace es → ⊥)
  IsCause Memory c n = IsDue es core c n × HasPlace es
  IsCause Stopped c n = ⊥

  -- a step that isn't the call's last, or is refused
  abbrev pub IsPendingWhere : Pending → ℕ → ℕ → Type 0
  IsPendingWhere (More job) c n = IsDue es core c n × HasPlace es
  IsPendingWhere (Refused why) c n = IsCause why c n

  -- why no client with so many hooks can be attached: they are over 16, or 64 clients are attached,
  -- or the history has no place
  abbrev pub attach_refusal : ℕ → Option Errno
  attach_refusal hooks =
      cond (nat_lt 16 hooks) (Some EINVAL)
      (cond (nat_lt (client_count core) 64) (cond (nat_lt (length es) (2 ^ 61)) None (Some ENOSPC)) (Some ENFILE))

module _ {F G : Type 0} {asks : Callback F} {rule : Rule G} (old : Core F G asks rule) (job : Job) (new : Core F G asks rule) where
  -- a step that is refused gives the job up, but for one that ran out of memory
  abbrev pub Refuses : Why → Type 0
  Refuses Session = GivesUp old job new
  Refuses Full = GivesUp old job new
  Refuses Memory = (after : Job) × Advances old job new after turns.NoMemory
  Refuses Stopped = ⊥

  -- A GUARDED STEP is one step of the job on the core, and answers the call's reply, or the job as it
  -- is then; or it is refused
  abbrev pub Guards : Result Answered Pending → Type 0
  Guards (Ok r) = (after : Job) × Advances old job new after (turns.Done r.reply)
  Guards (Err (More after)) = Advances old job new after turns.More
  Guards (Err (Refused why)) = Refuses why
