-- What receipts are handed back, what was done on what was mounted, and how a server doesn't end.
use Rattle.std.proofs.Common.{◌≡◌, ◌≢◌, Bool, true, false, ◌≤◌, List, length, All, subst, sym}
use Rattle.std.specs.List.{filter, list_any}
use Rattle.std.proofs.lemmas.Bool.{ltb-false, not-true}
use Rattle.std.proofs.lemmas.List.Elements.{filter_passes}
use Rattle.std.proofs.lemmas.List.Folds.{list_any_none}
use Rattle.plain_model.specs.Runs as runs
use Rattle.overlay_core.specs.LegalHistories.{Legally, Opening}
use Rattle.overlay_core.specs.declared.mounted.Core.{Core}
use Rattle.watch_table.specs.declared.hook.Callback.{Ghosts as Callback}
use Rattle.watch_table.specs.declared.hook.Rule.{Ghosts as Rule}
use Rattle.locked_history.specs.Claims.{Claim, is_past_end}
use Rattle.locked_history.specs.declared.entry.Entry.{Entry}
use Rattle.socket_server.specs.Working.{end_of}
use Rattle.socket_server.specs.declared.served.Served.TheVariants.{Stopped}
use Rattle.socket_server.specs.declared.worker.Worked.{Worked}

-- those that have a place past the end of the history have one at its length or behind that
pub past_end : (entries : List Entry) (receipts : List Claim) →
    All (λ receipt. length entries ≤ receipt.place) (filter (is_past_end entries) receipts)
past_end entries receipts = λ k d lt.
    ltb-false _ _ (not-true _ (filter_passes (is_past_end entries) receipts k d lt))

-- a legal history of what was mounted, by its name, ends in the core that is lent
pub named_legal : {F G : Type 0} {asks : Callback F} {rule : Rule G} (o mounted : Opening) (es : List runs.Entry)
    (core last : Core F G asks rule) → o ≡ mounted → core ≡ last → ∥ Legally mounted es last ∥₁ → ∥ Legally o es core ∥₁
named_legal o mounted es core last named is legal =
    subst (λ m. ∥ Legally m es core ∥₁) (sym named)
    (subst (λ c. ∥ Legally mounted es c ∥₁) (sym is) legal)

-- a server of which none was stopped isn't stopped
ends-else : (failed : Bool) → end_of failed false ≢ Stopped
ends-else true e = cc
ends-else false e = cc

-- nor is one of whose workers none was stopped
pub not-stopped : {K : Type 0} (workers : List (Worked K)) (failed : Bool) →
    All (λ worked. worked.stopped ≡ false) workers →
    end_of failed (list_any (λ worked. worked.stopped) workers) ≢ Stopped
not-stopped workers failed none =
    subst (λ stopped. end_of failed stopped ≢ Stopped) (sym (list_any_none (λ worked. worked.stopped) workers none))
    (ends-else failed)
