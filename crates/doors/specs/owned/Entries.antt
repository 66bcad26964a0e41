-- What the exchanges of a session are in the history of its mount.
use Rattle.std.specs.Prelude.{◌≡◌, ℕ, suc, ◌+◌, ◌^◌, ◌≤◌, false, List, [], ◌∷◌}
use Rattle.ov_base.specs.Calls.{Call}
use Rattle.ov_base.specs.declared.errno.Errno.{Errno}
use Rattle.ov_base.specs.declared.errno.Errno.TheVariants.{ENOMEM, ENOSPC}
use Rattle.ov_base.specs.declared.reply.Reply.TheVariants.{Done}
use Rattle.plain_model.specs.Machine.{State}
use Rattle.plain_model.specs.Runs.{Deed, Entry, Run, Detached}
use Rattle.plain_model.specs.Runs as deeds
use Rattle.mount_calls.specs.Keeping.{takes_no_memory}
use Rattle.ov_frames.specs.declared.answer.Answer.TheVariants.{Replied, NotTaken}
use Rattle.ov_session.specs.declared.exchange.Exchange.{Exchange}
use Rattle.ov_session.specs.declared.exchange.Exchange.TheVariants.{Called, HeldBack, Departed}
use Rattle.overlay_core.specs.Views.{CoreAgrees, core_finished}
use Rattle.overlay_core.specs.declared.mounted.Core.{Core}
use Rattle.watch_table.specs.declared.hook.Callback.{Ghosts as Callback}
use Rattle.watch_table.specs.declared.hook.Rule.{Ghosts as Rule}

abbrev pub entry : ℕ → ℕ → Deed → Entry
entry client number deed = record { client = client; number = number; deed = deed }

-- the entries of a client that these exchanges are, numbered from here on: a call with its reply is
-- one, and the detach is one; a call that was not taken or was held back is none
abbrev pub entries_of : ℕ → ℕ → List Exchange → List Entry
entries_of c n [] = []
entries_of c n (Called call (Replied place reply) ∷ told) =
    entry c n (deeds.Called call reply) ∷ entries_of c (suc n) told
entries_of c n (Called call (NotTaken errno) ∷ told) = entries_of c n told
entries_of c n (HeldBack call ∷ told) = entries_of c n told
entries_of c n (Departed answer ∷ told) = entry c n Detached ∷ entries_of c (suc n) told

-- why a call is not taken: the history has no room, or memory ran out and the call takes some
abbrev pub IsNotTaken : Call → Errno → Type 0
IsNotTaken call ENOSPC = Unit {0}
IsNotTaken call ENOMEM = takes_no_memory call ≡ false
IsNotTaken call _ = ⊥

-- the replies have the places from n on, and m deeds are finished then; a detach is answered
-- `Done`; a call is held back only where 2 ^ 62 deeds were finished
abbrev pub IsCounted : ℕ → List Exchange → ℕ → Type 0
IsCounted n [] m = m ≡ n
IsCounted n (Called call (Replied place reply) ∷ told) m =
    (place ≡ n) × IsCounted (n + 1) told m
IsCounted n (Called call (NotTaken errno) ∷ told) m = IsNotTaken call errno × IsCounted n told m
IsCounted n (HeldBack call ∷ told) m = (2 ^ 62 ≤ n) × IsCounted n told m
IsCounted n (Departed answer ∷ told) m = (answer ≡ Replied n Done) × IsCounted (n + 1) told m

-- THE EXCHANGES ARE A RUN: from each state that agreed with the core, what they tell of the client
-- leads to one that agrees
pub record IsPlayed {F G : Type 0} {asks : Callback F} {rule : Rule G}
    (client : ℕ) (old : Core F G asks rule) (told : List Exchange)
    (new : Core F G asks rule) : Type 0 where
  pub counted : IsCounted (core_finished old) told (core_finished new)
  pub run :
      (s : State) → CoreAgrees old s →
      (t : State) × ((number : ℕ) → Run rule.shows s (entries_of client number told) t)
      × CoreAgrees new t
