-- Watches that differ by what a key tells of them.
use Rattle.std.proofs.Common.{◌≡◌, Bool, true, false, cond, List, [], ◌∷◌, ◌++◌, map, filter, sym, ap, subst, ◌∙◌, refl}
use Rattle.std.specs.Cmp.{IsEquivalence}
use Rattle.std.specs.List.{AllByRecursion, IsDistinct, list_any}
use Rattle.std.proofs.lemmas.Map.Keys.{IsDistinct-head, IsDistinct-tail, IsDistinct-cons, IsDistinct-push}

module _ {W K : Type 0} (eq : K → K → Bool) (key : W → K) where
  keys_filter : (p : W → Bool) (P : K → Type 0) (ws : List W) → AllByRecursion P (map key ws) → AllByRecursion P (map key (filter p ws))
  keys_filter p P [] h = tt
  keys_filter p P (w ∷ ws) h = by (p w) (keys_filter p P ws h.1)
    where
      by : (b : Bool) → AllByRecursion P (map key (filter p ws)) → AllByRecursion P (map key (cond b (w ∷ filter p ws) (filter p ws)))
      by true rest = (h.0, rest)
      by false rest = rest

  -- no watch has a key twice
  pub distinct_none : IsDistinct eq (map key [])
  unfolding IsDistinct
  distinct_none = tt

  -- some of them differ
  pub distinct_filter : (p : W → Bool) (ws : List W) → IsDistinct eq (map key ws) → IsDistinct eq (map key (filter p ws))
  distinct_filter p [] h = h
  distinct_filter p (w ∷ ws) h = by (p w) (distinct_filter p ws (IsDistinct-tail eq (key w) (map key ws) h))
    where
      head : AllByRecursion (λ k. eq (key w) k ≡ false) (map key (filter p ws))
      head = keys_filter p (λ k. eq (key w) k ≡ false) ws (IsDistinct-head eq (key w) (map key ws) h)

      by : (b : Bool) → IsDistinct eq (map key (filter p ws)) → IsDistinct eq (map key (cond b (w ∷ filter p ws) (filter p ws)))
      by true rest = IsDistinct-cons eq (key w) (map key (filter p ws)) head rest
      by false rest = rest

  map-push : (ws : List W) (w : W) → map key (ws ++ w ∷ []) ≡ map key ws ++ key w ∷ []
  map-push [] w = refl
  map-push (v ∷ ws) w = ap (λ ks. key v ∷ ks) (map-push ws w)

  -- and one more whose key none has
  pub distinct_push : IsEquivalence eq → (ws : List W) (w : W) → IsDistinct eq (map key ws) → list_any (eq (key w)) (map key ws) ≡ false →
      IsDistinct eq (map key (ws ++ w ∷ []))
  distinct_push laws ws w h none = subst (IsDistinct eq) (sym (map-push ws w)) (IsDistinct-push laws (map key ws) (key w) h none)

  -- and after a change of what the key doesn't tell
  pub distinct_kept : (f : W → W) (ws : List W) → ((w : W) → key (f w) ≡ key w) → IsDistinct eq (map key ws) →
      IsDistinct eq (map key (map f ws))
  distinct_kept f ws same h = subst (IsDistinct eq) (sym (keys-kept ws)) h
    where
      keys-kept : (vs : List W) → map key (map f vs) ≡ map key vs
      keys-kept [] = refl
      keys-kept (v ∷ vs) = ap (λ k. k ∷ map key (map f vs)) (same v) ∙ ap (λ ks. key v ∷ ks) (keys-kept vs)
