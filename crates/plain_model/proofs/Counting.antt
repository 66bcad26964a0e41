-- How many there are of something, where one more or one less is of it.
use Rattle.std.proofs.Common.{◌≡◌, ◌↔◌, ℕ, suc, ◌+◌, ◌-◌, Bool, true, false, not, cond, ◌||◌, List, [], ◌∷◌, length, filter, refl, sym, ap, ◌∙◌, arith, ◌⊎◌, inl, inr, Decides}
use Rattle.std.proofs.lemmas.Bool.{cases_Bool, false≢true, both_ways}
use Rattle.std.proofs.lemmas.Map.Keys.{IsDistinct-cons, IsDistinct-head, IsDistinct-tail}
use Rattle.std.specs.List.{list_any, IsDistinct, AllByRecursion}

module _ (W : Type 0) (same : W → W → Bool) (tells : (x y : W) → Decides (same x y) (x ≡ y)) where
  abbrev without : W → List W → List W
  without v ws = filter (λ x. not (same v x)) ws

  -- a list of exactly those of P, each once
  pub record Counted (P : W → Type 0) (n : ℕ) : Type 0 where
    pub items : List W
    pub once : IsDistinct same items
    pub exact : (w : W) → (list_any (same w) items ≡ true) ↔ P w
    pub counted : n ≡ length items

  pub count-same : (P Q : W → Type 0) (n : ℕ) → ((w : W) → P w ↔ Q w) → Counted P n → Counted Q n
  count-same P Q n h k = record { items = k.items; once = k.once; exact = λ w. ((λ i. (h w).0 ((k.exact w).0 i)), (λ q. (k.exact w).1 ((h w).1 q))); counted = k.counted }

  apart : (v : W) (ws : List W) → list_any (same v) ws ≡ false → AllByRecursion (λ y. same v y ≡ false) ws
  apart v [] h = tt
  apart v (w ∷ ws) h = by (apart v ws) (cases_Bool (same v w)) h
    where
      by : (list_any (same v) ws ≡ false → AllByRecursion (λ y. same v y ≡ false) ws) → (same v w ≡ true) ⊎ (same v w ≡ false) → same v w || list_any (same v) ws ≡ false → (same v w ≡ false) × AllByRecursion (λ y. same v y ≡ false) ws
      by rest (inl y) h = absurd (false≢true (sym h ∙ ap (λ b. b || list_any (same v) ws) y))
      by rest (inr f) h = (f, rest (ap (λ b. b || list_any (same v) ws) (sym f) ∙ h))

  no-member : (v : W) (ws : List W) (b : Bool) → list_any (same v) ws ≡ b → (b ≡ true → ⊥) → list_any (same v) ws ≡ false
  no-member v ws true h g = absurd (g refl)
  no-member v ws false h g = h

  -- one more
  pub count-more : (P Q : W → Type 0) (n : ℕ) (v : W) → (P v → ⊥) → ((w : W) → Q w ↔ ((w ≡ v) ⊎ P w)) → Counted P n → Counted Q (n + 1)
  count-more P Q n v new h k = record {
    items = v ∷ k.items;
    once = IsDistinct-cons same v k.items (apart v k.items (no-member v k.items (list_any (same v) k.items) refl (λ i. new ((k.exact v).0 i)))) k.once;
    exact = λ w. (there w, back w);
    counted = let e = k.counted in omega arith;
  }
    where
      there : (w : W) → same w v || list_any (same w) k.items ≡ true → Q w
      there w i = elim (cases_Bool (same w v)) [
        | inl y ↦ (h w).1 (inl ((tells w v).0 y))
        | inr f ↦ (h w).1 (inr ((k.exact w).0 (ap (λ b. b || list_any (same w) k.items) (sym f) ∙ i)))
      ]

      or-true : (b : Bool) → b || true ≡ true
      or-true true = refl
      or-true false = refl

      back : (w : W) → Q w → same w v || list_any (same w) k.items ≡ true
      back w q = elim ((h w).0 q) [
        | inl e ↦ ap (λ b. b || list_any (same w) k.items) ((tells w v).1 e)
        | inr p ↦ ap (λ b. same w v || b) ((k.exact w).1 p) ∙ or-true (same w v)
      ]

  all-kept : (v : W) (ws : List W) → AllByRecursion (λ y. same v y ≡ false) ws → without v ws ≡ ws
  all-kept v [] h = refl
  all-kept v (w ∷ ws) h = ap (λ b. cond (not b) (w ∷ without v ws) (without v ws)) h.0 ∙ ap (λ z. w ∷ z) (all-kept v ws h.1)

  still-apart : (v x : W) (ws : List W) → AllByRecursion (λ y. same x y ≡ false) ws → AllByRecursion (λ y. same x y ≡ false) (without v ws)
  still-apart v x [] h = tt
  still-apart v x (w ∷ ws) h = by (still-apart v x ws h.1) (not (same v w))
    where
      by : AllByRecursion (λ y. same x y ≡ false) (without v ws) → (b : Bool) → AllByRecursion (λ y. same x y ≡ false) (cond b (w ∷ without v ws) (without v ws))
      by rest true = (h.0, rest)
      by rest false = rest

  still-once : (v : W) (ws : List W) → IsDistinct same ws → IsDistinct same (without v ws)
  still-once v [] h = h
  still-once v (w ∷ ws) h = by (still-once v ws (IsDistinct-tail same w ws h)) (not (same v w))
    where
      by : IsDistinct same (without v ws) → (b : Bool) → IsDistinct same (cond b (w ∷ without v ws) (without v ws))
      by rest true = IsDistinct-cons same w (without v ws) (still-apart v w ws (IsDistinct-head same w ws h)) rest
      by rest false = rest

  one-less : (v : W) (ws : List W) → IsDistinct same ws → list_any (same v) ws ≡ true → suc (length (without v ws)) ≡ length ws
  one-less v [] d h = absurd (false≢true h)
  one-less v (w ∷ ws) d h = by (one-less v ws (IsDistinct-tail same w ws d)) (cases_Bool (same v w))
    where
      by : (list_any (same v) ws ≡ true → suc (length (without v ws)) ≡ length ws) → (same v w ≡ true) ⊎ (same v w ≡ false) → suc (length (cond (not (same v w)) (w ∷ without v ws) (without v ws))) ≡ length (w ∷ ws)
      by rest (inl y) =
          ap (λ b. suc (length (cond (not b) (w ∷ without v ws) (without v ws)))) y
          ∙ ap (λ z. suc (length z)) (ap (λ z. without z ws) ((tells v w).0 y) ∙ all-kept w ws (IsDistinct-head same w ws d))
      by rest (inr f) =
          ap (λ b. suc (length (cond (not b) (w ∷ without v ws) (without v ws)))) f
          ∙ (let r = rest (ap (λ b. b || list_any (same v) ws) (sym f) ∙ h) in omega arith)

  member-without : (v x : W) (ws : List W) → (same v x ≡ false) → list_any (same x) (without v ws) ≡ list_any (same x) ws
  member-without v x [] o = refl
  member-without v x (w ∷ ws) o = by (member-without v x ws o) (cases_Bool (same v w))
    where
      by : list_any (same x) (without v ws) ≡ list_any (same x) ws → (same v w ≡ true) ⊎ (same v w ≡ false) → list_any (same x) (cond (not (same v w)) (w ∷ without v ws) (without v ws)) ≡ same x w || list_any (same x) ws
      by rest (inl y) =
          ap (λ b. list_any (same x) (cond (not b) (w ∷ without v ws) (without v ws))) y ∙ rest
          ∙ sym (ap (λ b. b || list_any (same x) ws) (no-match (cases_Bool (same x w))))
        where
          no-match : (same x w ≡ true) ⊎ (same x w ≡ false) → same x w ≡ false
          no-match (inl z) = absurd (both_ways (same v x) o ((tells v x).1 ((tells v w).0 y ∙ sym ((tells x w).0 z))))
          no-match (inr f) = f
      by rest (inr f) = ap (λ b. list_any (same x) (cond (not b) (w ∷ without v ws) (without v ws))) f ∙ ap (λ b. same x w || b) rest

  gone : (v : W) (ws : List W) → IsDistinct same ws → list_any (same v) (without v ws) ≡ false
  gone v [] d = refl
  gone v (w ∷ ws) d = by (gone v ws (IsDistinct-tail same w ws d)) (cases_Bool (same v w))
    where
      by : list_any (same v) (without v ws) ≡ false → (same v w ≡ true) ⊎ (same v w ≡ false) → list_any (same v) (cond (not (same v w)) (w ∷ without v ws) (without v ws)) ≡ false
      by rest (inl y) = ap (λ b. list_any (same v) (cond (not b) (w ∷ without v ws) (without v ws))) y ∙ rest
      by rest (inr f) = ap (λ b. list_any (same v) (cond (not b) (w ∷ without v ws) (without v ws))) f ∙ ap (λ b. b || list_any (same v) (without v ws)) f ∙ rest

  -- one less
  pub count-less : (P Q : W → Type 0) (n : ℕ) (v : W) → P v → ((w : W) → Q w ↔ (P w × (w ≡ v → ⊥))) → Counted P n → Counted Q (n - 1)
  count-less P Q n v old h k = record {
    items = without v k.items;
    once = still-once v k.items k.once;
    exact = λ w. (there w, back w);
    counted = let e = k.counted in let f = one-less v k.items k.once ((k.exact v).1 old) in omega arith;
  }
    where
      there : (w : W) → list_any (same w) (without v k.items) ≡ true → Q w
      there w i = elim (cases_Bool (same v w)) [
        | inl y ↦ absurd (false≢true (sym (gone v k.items k.once) ∙ ap (λ z. list_any (same z) (without v k.items)) ((tells v w).0 y) ∙ i))
        | inr f ↦ (h w).1 ((k.exact w).0 (sym (member-without v w k.items f) ∙ i), λ e. both_ways (same v w) f ((tells v w).1 (sym e)))
      ]

      back : (w : W) → Q w → list_any (same w) (without v k.items) ≡ true
      back w q = elim (cases_Bool (same v w)) [
        | inl y ↦ absurd (((h w).0 q).1 (sym ((tells v w).0 y)))
        | inr f ↦ member-without v w k.items f ∙ (k.exact w).1 ((h w).0 q).0
      ]

  -- where one is of it, there is at least one
  pub count-some : (P : W → Type 0) (n : ℕ) (v : W) → P v → Counted P n → (n ≡ 0 → ⊥)
  count-some P n v p k e = let f = one-less v k.items k.once ((k.exact v).1 p) in let g = k.counted in absurd (omega arith)
