-- A history that grows by one entry.
use Rattle.std.proofs.Common.{arith, ◌≡◌, ◌∙◌, ℕ, List, [], ◌∷◌, ◌++◌, Option, refl, sym, ap, length}
use mathlib.Core.Logic.{∥∥₁_elim, ∥∥₁_prop}
use Rattle.std.specs.Prelude.{count_by}
use Rattle.std.proofs.Common.{true, false}
use Rattle.std.proofs.lemmas.List.{map-append}
use Rattle.std.proofs.lemmas.List.Sums.{length-filter}
use Rattle.plain_model.specs.Runs.{Attached, Deed, Entry, is_attach, is_of}
use Rattle.overlay_core.specs.LegalHistories.{Legally, Opening}
use Rattle.overlay_core.specs.Views.{CoreGoes, CoreKeeps, core_clients, has_client, next_client}
use Rattle.overlay_core.specs.declared.mounted.Core.{Core}
use Rattle.overlay_core.proofs.LegalHistories.{legal_goes}
use Rattle.watch_table.specs.declared.hook.Callback.{Ghosts as Callback}
use Rattle.watch_table.specs.declared.hook.Rule.{Ghosts as Rule}
use Rattle.locked_history.specs.declared.entry.Entry.{Entry as Kept}
use Rattle.locked_history.specs.Entries.{entry_of, history_of, told}
use Rattle.endless_mount.specs.declared.book.BookName.{Ghosts as BookName}
use Rattle.endless_mount.specs.declared.recorded.Recorded.{Recorded}
use Rattle.endless_mount.specs.Views.{Appends, core_in, entries_in}
use Rattle.endless_mount.specs.Numbered.{NumbersIn, next_number}
use Rattle.endless_mount.proofs.Numbering.{next_of}

-- what the entries tell, in order
pub history_push : (es : List Kept) (e : Kept) → history_of (es ++ e ∷ []) ≡ history_of es ++ entry_of e ∷ []
history_push es e = map-append entry_of es (e ∷ [])

module _ {F G : Type 0} {asks : Callback F} {rule : Rule G} {o : Opening} {es : List Entry} {kept : ℕ → Option ℕ} (old new : Core F G asks rule) where
  -- a call or a detach makes it longer by the number that is due
  pub legal_due : (c number : ℕ) (deed : Deed) → ∥ Legally o es old ∥₁ → ∥ NumbersIn es kept (core_clients old) ∥₁ → has_client old c ≡ true → number ≡ next_number es c → is_attach deed ≡ false → CoreGoes old c deed new → CoreKeeps old new → ∥ Legally o (es ++ (record { client = c; number = number; deed = deed }) ∷ []) new ∥₁
  legal_due c number deed h numbers att due calls goes keeps = ∥∥₁_elim numbers ∥∥₁_prop (λ n. legal_goes old new c number deed h (next_of es c number deed due calls (n.number c att)) goes keeps)

  -- an attach makes it longer by the first entry of a new client
  pub legal_attach : (c : ℕ) (tags : List ℕ) → ∥ Legally o es old ∥₁ → ∥ NumbersIn es kept (core_clients old) ∥₁ → c ≡ next_client old → CoreGoes old c (Attached tags) new → CoreKeeps old new → ∥ Legally o (es ++ (record { client = c; number = 1; deed = Attached tags }) ∷ []) new ∥₁
  legal_attach c tags h numbers first goes keeps = ∥∥₁_elim numbers ∥∥₁_prop (λ n.
      let none = n.fresh c (omega (arith, first)) in
      let zero_of : count_by (is_of c) es ≡ 0 = sym (length-filter (is_of c) es) ∙ ap length none in
      legal_goes old new c 1 (Attached tags) h (record { numbered = rw zero_of refl; attach_first = (λ q. refl, λ q. refl); not_left = rw none refl }) goes keeps)

-- ---- a step that makes the history longer

-- it appends its entry
pub appends : {N F G : Type 0} {name : BookName N} {asks : Callback F} {rule : Rule G} (old : Recorded N F G name asks rule) {new : Recorded N F G name asks rule} (entry : Kept) (at : ℕ) → entries_in new ≡ entries_in old ++ entry ∷ [] → at ≡ length (entries_in old) → CoreGoes (core_in old) entry.client (told entry.deed) (core_in new) → Appends old entry at new
appends old entry at longer last goes = record { entries = longer; place = last; goes = goes }
