-- The calls that are on their way on a stage.
use Rattle.std.specs.Prelude.{◌≡◌, ◌≢◌, ℕ, Bool, true, ◌&&◌, not, Option, Some, IsSomeAnd, is_some}
use Rattle.std.specs.BTreeMap.{get}
use Rattle.std.specs.Ordering.{nat_cmp}
use Rattle.ov_base.specs.Calls.{Call}
use Rattle.overlay_core.specs.Histories.{HasPlaces}
use Rattle.overlay_core.specs.Views.{has_client}
use Rattle.overlay_core.specs.declared.job.Job.{Job}
use Rattle.overlay_core.specs.declared.job.Standing.TheVariants as standing
use Rattle.watch_table.specs.declared.hook.Callback.{Ghosts as Callback}
use Rattle.watch_table.specs.declared.hook.Rule.{Ghosts as Rule}
use Rattle.ov_server.specs.declared.stage.Stage.{Stage}

module _ {F G : Type 0} {asks : Callback F} {rule : Rule G} where
  -- the job of a client's call that is on its way
  abbrev pub open_call : Stage F G asks rule → ℕ → Option Job
  open_call m client = get nat_cmp m.calls client

  -- whether a client has a call on its way
  abbrev pub is_calling : Stage F G asks rule → ℕ → Bool
  is_calling m client = is_some (open_call m client)

  -- whether a client is attached and has none
  abbrev pub may_call : Stage F G asks rule → ℕ → Bool
  may_call m client = has_client m.core client && not (is_calling m client)

  -- a client's call is on its way, and no step of it was made
  abbrev pub OpensCall : Stage F G asks rule → ℕ → Call → Type 0
  OpensCall m client call =
      IsSomeAnd (open_call m client) (λ job.
      (job.client ≡ client) × (job.call ≡ call) × (job.standing ≡ standing.Open) × (job.steps ≡ 0))

  -- the calls that are on their way stay as they were, or those of all clients but one
  abbrev pub KeepsCalls : Stage F G asks rule → Stage F G asks rule → Type 0
  KeepsCalls old new = (n : ℕ) → open_call new n ≡ open_call old n

  abbrev pub KeepsOtherCalls : Stage F G asks rule → Stage F G asks rule → ℕ → Type 0
  KeepsOtherCalls old new client = (n : ℕ) → n ≢ client → open_call new n ≡ open_call old n

-- A STAGE IS IN ORDER: the history has a place for each detach, and each call that is on its way is
-- its client's, who is attached, and has steps to make
pub record IsInOrder {F G : Type 0} {asks : Callback F} {rule : Rule G}
    (m : Stage F G asks rule) : Type 0 where
  pub places : HasPlaces m.core
  pub owners : (n : ℕ) (job : Job) → open_call m n ≡ Some job → job.client ≡ n
  pub attached : (n : ℕ) → is_calling m n ≡ true → has_client m.core n ≡ true
  pub unended : (n : ℕ) (job : Job) → open_call m n ≡ Some job → job.standing ≡ standing.Open
