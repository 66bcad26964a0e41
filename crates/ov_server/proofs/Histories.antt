-- Nobody is on a roster at the beginning.
use Rattle.std.proofs.Common.{◌≡◌, ◌≢◌, ◌∙◌, ℕ, Bool, true, false, Option, None, refl, sym, ap, subst, is_some}
use Rattle.std.proofs.lemmas.Bool.{false≢true}
use Rattle.overlay_core.specs.Histories.{HasPlaces}
use Rattle.overlay_core.specs.Views.{has_client, next_client}
use Rattle.overlay_core.specs.declared.mounted.Core.{Core}
use Rattle.watch_table.specs.declared.hook.Callback.{Ghosts as Callback}
use Rattle.watch_table.specs.declared.hook.Rule.{Ghosts as Rule}
use Rattle.ov_server.specs.Plays.{BeginsOn, IsRosterOf}
use Rattle.ov_server.specs.Rosters.{nobody}
use Rattle.ov_server.specs.Stages.{IsInOrder, open_call}
use Rattle.ov_server.specs.declared.stage.Stage.{Stage}

-- whether there is something
abbrev there : {A : Type 0} → Option A → Bool
there o = is_some o

module _ {F G : Type 0} {asks : Callback F} {rule : Rule G} (m : Stage F G asks rule) (none : (n : ℕ) → open_call m n ≡ None) (core : Core F G asks rule) (is : m.core ≡ core) where
  -- nobody is attached to a new mount, none of them calls, and no number was given
  pub begun : BeginsOn core → IsRosterOf m nobody
  begun begins = record {
    attached = λ client. none_there (has_client core client) (begins.nobody client) ∙ sym (ap (λ (k : Core F G asks rule). has_client k client) is);
    calling = λ client. sym (ap there (none client));
    next = ap (λ (k : Core F G asks rule). next_client k) is ∙ begins.first;
  }
    where
      none_there : (b : Bool) → b ≢ true → false ≡ b
      none_there false h = refl
      none_there true h = absurd (h refl)

  -- a mount without a call is in order
  pub order_begun : HasPlaces core → IsInOrder m
  order_begun places = record {
    places = subst (λ (k : Core F G asks rule). HasPlaces k) (sym is) places;
    owners = λ n job called. absurd (false≢true (sym (ap there (none n)) ∙ ap there called));
    attached = λ n called. absurd (false≢true (sym (ap there (none n)) ∙ called));
    unended = λ n job called. absurd (false≢true (sym (ap there (none n)) ∙ ap there called));
  }
