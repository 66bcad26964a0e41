-- A history that grows by one entry.
use Rattle.std.proofs.Common.{arith, ◌≡◌, ◌∙◌, ℕ, zero, suc, ◌+◌, ◌<◌, Bool, true, List, [], ◌∷◌, ◌++◌, refl, sym, ap, subst, map, get_or, length, take}
use Rattle.std.specs.Prelude.{slice_index}
use Rattle.std.proofs.lemmas.List.{map-append, take_more}
use Rattle.overlay_core.specs.Views.{CoreGoes}
use Rattle.watch_table.specs.declared.hook.Callback.{Ghosts as Callback}
use Rattle.watch_table.specs.declared.hook.Rule.{Ghosts as Rule}
use Rattle.locked_history.specs.declared.entry.Entry.{Entry as Kept}
use Rattle.locked_history.specs.declared.locked.Locked.{Locked}
use Rattle.locked_history.specs.declared.mount_name.MountName.{Ghosts as MountName}
use Rattle.locked_history.specs.Claims.{Claim}
use Rattle.locked_history.specs.Entries.{entry_of, history_of, told}
use Rattle.locked_history.specs.Views.{Appends, core_in, entries_in}

-- what is read at a place is what stands there
pub read_at : (xs : List ℕ) (i x : ℕ) → i < length xs → x ≡ get_or xs i x → slice_index xs i ≡ x
read_at [] i x lt at = absurd (omega arith)
read_at (y ∷ ys) zero x lt at = sym at
read_at (y ∷ ys) (suc i) x lt at = read_at ys i x (omega arith) at

-- ---- what is kept of the entries

-- the history has what is kept, in order
pub history_push : (es : List Kept) (e : Kept) → history_of (es ++ e ∷ []) ≡ history_of es ++ entry_of e ∷ []
history_push es e = map-append entry_of es (e ∷ [])

-- the notes are of the first cells of the row
pub names_push : (ns cells : List ℕ) (used : ℕ) → ns ≡ take used cells → used < length cells → ns ++ slice_index cells used ∷ [] ≡ take (used + 1) cells
names_push ns cells used is within = rw (is, take_more cells used 0 within) refl

trues : {A : Type 0} (xs : List A) → map (λ (b : Bool). true) (map (λ (x : A). true) xs ++ true ∷ []) ≡ map (λ (x : A). true) xs ++ true ∷ []
trues [] = refl
trues (x ∷ xs) = ap (λ l. true ∷ l) (trues xs)

flat : {A : Type 0} (known : A → Bool) (ys : List A) → map (λ (b : Bool). true) (map known ys) ≡ map (λ (y : A). true) ys
flat known [] = refl
flat known (y ∷ ys) = ap (λ l. true ∷ l) (flat known ys)

-- each note knows an entry
pub known_push : {A : Type 0} (known : A → Bool) (xs ys : List A) → map known ys ≡ map known xs ++ true ∷ [] → map known xs ≡ map (λ (x : A). true) xs → map known ys ≡ map (λ (y : A). true) ys
known_push {A} known xs ys is all =
    let e : map known ys ≡ map (λ (x : A). true) xs ++ true ∷ [] = is ∙ ap (λ l. l ++ true ∷ []) all in
    e ∙ (sym (trues xs) ∙ (ap (map (λ (b : Bool). true)) (sym e) ∙ flat known ys))

-- ---- a step that makes the history longer

-- it appends the entry that its receipt claims
pub appends : {N F G : Type 0} {name : MountName N} {asks : Callback F} {rule : Rule G} (old : Locked N F G name asks rule) {new : Locked N F G name asks rule} (made : Claim) (entry : Kept) (place : ℕ) → made ≡ record { place = place; entry = entry; counted = true } → entries_in new ≡ entries_in old ++ entry ∷ [] → place ≡ length (entries_in old) → CoreGoes (core_in old) entry.client (told entry.deed) (core_in new) → Appends old made new
appends old {new} made entry place is longer last goes = subst (λ (c : Claim). Appends old c new) (sym is) (record { entries = longer; place = last; counted = refl; goes = goes })
