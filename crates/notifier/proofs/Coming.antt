-- Which clients there are, as clients come and go.
use Rattle.std.proofs.Common.{◌≡◌, ℕ, ◌<◌, Bool, true, false, cond, not, List, [], ◌∷◌, ◌++◌, filter, refl, sym, ap, ◌∙◌, arith, nat_eq, eq-eqb, inl, inr}
use Rattle.std.specs.Prelude.{◌||◌, OnOk, Result, Ok, Err, is_err}
use Rattle.std.specs.List.{list_any}
use Rattle.std.proofs.lemmas.Bool.{false≢true, cases_Bool}
use Rattle.open_handles.specs.TrackedHandles.{TrackedTables, is_tracked}
use Rattle.watch_table.proofs.Clients.{nat_ne}

-- without the client that came last, there are those that were there before
pub gone-again : (c : ℕ) (ks : List ℕ) → ((k : ℕ) → list_any (nat_eq k) ks ≡ true → k < c) →
    filter (λ k. not (nat_eq k c)) (ks ++ c ∷ []) ≡ ks
gone-again c [] h = ap (λ b. cond (not b) (c ∷ []) []) (eq-eqb c c refl)
gone-again c (k ∷ ks) h =
    ap (λ b. cond (not b) (k ∷ filter (λ j. not (nat_eq j c)) (ks ++ c ∷ [])) (filter (λ j. not (nat_eq j c)) (ks ++ c ∷ [])))
    (nat_ne k c (λ same. let below = h k (ap (λ b. b || list_any (nat_eq k) ks) (eq-eqb k k refl)) in omega arith))
    ∙ ap (λ js. k ∷ js) (gone-again c ks (λ j is. h j (later j (nat_eq j k) is)))
  where
    later : (j : ℕ) (b : Bool) → list_any (nat_eq j) ks ≡ true → (b || list_any (nat_eq j) ks) ≡ true
    later j true is = refl
    later j false is = is

-- a client above all others is none of them
pub new-client : (c : ℕ) (ks : TrackedTables) → ((k : ℕ) → is_tracked ks k ≡ true → k < c) → is_tracked ks c ≡ false
new-client c ks h = elim (cases_Bool (is_tracked ks c)) [ inl t ↦ let below = h c t in absurd (omega arith) | inr f ↦ f ]

-- what holds where a result is no refusal
pub ok-from : {A E P : Type 0} (r : Result A E) (b : Bool) → b ≡ is_err r → b ≡ false → OnOk r P → P
ok-from (Ok a) b is off h = h
ok-from (Err e) b is off h = absurd (false≢true (sym off ∙ is))

-- what holds by two things that hold where a result is no refusal
pub ok-both : {A E P Q S : Type 0} (r : Result A E) → (P → Q → S) → OnOk r P → OnOk r Q → OnOk r S
ok-both (Ok a) f x y = f x y
ok-both (Err e) f x y = tt
