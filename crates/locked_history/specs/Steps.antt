-- When a guarded step is made, and why it is not.
use Rattle.std.specs.Prelude.{◌≡◌, ◌⊎◌, ℕ, suc, ◌<◌, true, List, count_by, Option, None, Result, Ok, Err}
use Rattle.plain_model.specs.Runs.{is_of}
use Rattle.ov_base.specs.Calls.{Call}
use Rattle.ov_base.specs.declared.reply.Reply.{Reply}
use Rattle.work_dir.specs.OpenJobs as jobs
use Rattle.overlay_core.specs.Jobs.{Advances}
use Rattle.overlay_core.specs.Steps.{without}
use Rattle.overlay_core.specs.Views.{CoreSame, core_room, core_work, has_client}
use Rattle.overlay_core.specs.declared.job.Job.{Job}
use Rattle.overlay_core.specs.declared.job.Standing.TheVariants.{Open}
use Rattle.overlay_core.specs.declared.mounted.Core.{Core}
use Rattle.overlay_core.specs.declared.turn.Turn.TheVariants as turns
use Rattle.watch_table.specs.declared.hook.Callback.{Ghosts as Callback}
use Rattle.watch_table.specs.declared.hook.Rule.{Ghosts as Rule}
use Rattle.locked_history.specs.declared.entry.Entry.{Entry}
use Rattle.locked_history.specs.declared.entry.Deed.TheVariants.{Called}
use Rattle.locked_history.specs.declared.locked.Pending.{Pending}
use Rattle.locked_history.specs.declared.locked.Pending.TheVariants.{More, Refused}
use Rattle.locked_history.specs.declared.session.Refused.{Refused as Why}
use Rattle.locked_history.specs.declared.session.Refused.TheVariants.{Memory, Full, Session, Stopped}
use Rattle.locked_history.specs.Claims.{Claim}
use Rattle.locked_history.specs.Entries.{history_of}

-- a call that goes on is the same call of the same client, and still open
abbrev pub IsStill : Pending → ℕ → Call → Type 0
IsStill (More job room) c call = (job.client ≡ c) × (job.call ≡ call) × (job.standing ≡ Open)
IsStill (Refused why) c call = Unit {0}

-- no call of the client is on its way
abbrev pub IsIdle : {F G : Type 0} {asks : Callback F} {rule : Rule G} →
    Core F G asks rule → ℕ → Type 0
IsIdle core c = count_by (jobs.is_of c) (core_work core) ≡ 0

module _ {F G : Type 0} {asks : Callback F} {rule : Rule G} (es : List Entry) (core : Core F G asks rule) where
  -- the client is attached, and this is the number of its next entry
  abbrev pub IsDue : ℕ → ℕ → Type 0
  IsDue c n = (has_client core c ≡ true) × (n ≡ suc (count_by (is_of c) (history_of es)))

  -- the history has a place that no client's detach needs
  abbrev pub HasPlace : Type 0
  HasPlace = 0 < core_room core

  -- why a step is refused: the session isn't due; it is, and there is no place; or memory ran out
  abbrev pub IsCause : Why → ℕ → ℕ → Type 0
  IsCause Session c n = IsDue c n → ⊥
  IsCause Full c n = IsDue c n × (HasPlace → ⊥)
  IsCause Memory c n = IsDue c n × HasPlace
  IsCause Stopped c n = ⊥

  -- a step that isn't the call's last, or is refused
  abbrev pub IsPendingWhere : Pending → ℕ → ℕ → Type 0
  IsPendingWhere (More job room) c n = IsDue c n × HasPlace
  IsPendingWhere (Refused why) c n = IsCause why c n

-- the job is given up, with its temp, and nothing that is shown changes
pub record GivesUp {F G : Type 0} {asks : Callback F} {rule : Rule G}
    (old : Core F G asks rule) (job : Job) (new : Core F G asks rule) : Type 0 where
  pub same : CoreSame old new
  pub work : core_work new ≡ without (core_work old) job

module _ {F G A : Type 0} {asks : Callback F} {rule : Rule G} (old : Core F G asks rule) (job : Job) (room : Option A) (new : Core F G asks rule) where
  -- a step that is refused gives the job up, but for one that ran out of memory
  abbrev pub Refuses : Why → Type 0
  Refuses Session = GivesUp old job new
  Refuses Full = GivesUp old job new
  Refuses Memory = ((room ≡ None) × GivesUp old job new) ⊎ ((after : Job) × Advances old job new after turns.NoMemory)
  Refuses Stopped = ⊥

  -- A GUARDED STEP is one step of the job on the core, and answers a receipt with the call's reply, or
  -- the job as it is then; or it is refused
  abbrev pub Guards : Result Claim Pending → Type 0
  Guards (Ok receipt) =
      (reply : Reply) × (receipt.entry.deed ≡ Called job.call reply)
      × ((after : Job) × Advances old job new after (turns.Done reply))
  Guards (Err (More after still)) = Advances old job new after turns.More
  Guards (Err (Refused why)) = Refuses why
