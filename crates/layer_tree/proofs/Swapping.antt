-- Two places of which neither is below the other change places, with all paths below them: how many paths there are of something stays.
use Rattle.std.proofs.Common.{◌≡◌, ◌⊎◌, ℕ, Bool, true, false, ◌||◌, List, [], ◌∷◌, ◌++◌, map, refl, sym, ap, ap₂, subst, ◌∙◌, inl, inr, Decides}
use Rattle.std.proofs.lemmas.List.{append_cancel_right, length-map}
use Rattle.std.proofs.lemmas.Map.Keys.{IsDistinct-cons, IsDistinct-head, IsDistinct-tail}
use Rattle.std.specs.List.{list_any, IsDistinct, AllByRecursion}
use Rattle.plain_model.specs.Layers.{Path}
use Rattle.plain_model.specs.Laws.{IsOutside}
use Rattle.plain_model.proofs.Paths.{IsBelow, place}
use Rattle.plain_model.proofs.Counting.{Counted}

-- a swap, and a list of what is swapped
module _ (W : Type 0) (same : W → W → Bool) (tells : (x y : W) → Decides (same x y) (x ≡ y)) (swap : W → W) (back : (w : W) → swap (swap w) ≡ w) where
  -- tests that hold of the same are one
  one_test : (a b : Bool) → (a ≡ true → b ≡ true) → (b ≡ true → a ≡ true) → a ≡ b
  one_test true b f g = sym (f refl)
  one_test false true f g = g refl
  one_test false false f g = refl

  same-swap : (w x : W) → same w (swap x) ≡ same (swap w) x
  same-swap w x =
      one_test (same w (swap x)) (same (swap w) x)
      (λ h. (tells (swap w) x).1 (ap swap ((tells w (swap x)).0 h) ∙ back x))
      (λ h. (tells w (swap x)).1 (sym (back w) ∙ ap swap ((tells (swap w) x).0 h)))

  -- what is among the swapped was swapped from what is among them
  pub member-swap : (w : W) (ws : List W) → list_any (same w) (map swap ws) ≡ list_any (same (swap w)) ws
  member-swap w [] = refl
  member-swap w (x ∷ ws) = ap₂ (λ a b. a || b) (same-swap w x) (member-swap w ws)

  apart-swap : (w : W) (ws : List W) → AllByRecursion (λ y. same w y ≡ false) ws → AllByRecursion (λ y. same (swap w) y ≡ false) (map swap ws)
  apart-swap w [] h = tt
  apart-swap w (x ∷ ws) h = (same-swap (swap w) x ∙ ap (λ v. same v x) (back w) ∙ h.0, apart-swap w ws h.1)

  once-swap : (ws : List W) → IsDistinct same ws → IsDistinct same (map swap ws)
  once-swap [] h = h
  once-swap (w ∷ ws) h = IsDistinct-cons same (swap w) (map swap ws) (apart-swap w ws (IsDistinct-head same w ws h)) (once-swap ws (IsDistinct-tail same w ws h))

  -- as many of it are there where it is swapped
  pub count-swap : (P : W → Type 0) (n : ℕ) → Counted W same tells P n → Counted W same tells (λ w. P (swap w)) n
  count-swap P n k =
      record {
        items = map swap k.items;
        once = once-swap k.items k.once;
        exact = λ w. ((λ h. (k.exact (swap w)).0 (sym (member-swap w k.items) ∙ h)), (λ p. member-swap w k.items ∙ (k.exact (swap w)).1 p));
        counted = k.counted ∙ sym (length-map k.items swap);
      }

-- of two ways that end alike one ends with the other
ends_alike : (r s a b : Path) → r ++ a ≡ s ++ b → IsBelow a b ⊎ IsBelow b a
ends_alike [] s a b e = inr (s, e)
ends_alike (m ∷ r) [] a b e = inl (m ∷ r, sym e)
ends_alike (m ∷ r) (n ∷ s) a b e = ends_alike r s a b (cc)

-- the other place, for a path at one of two or below it
abbrev exchanged : (a b w : Path) → IsBelow a w ⊎ IsOutside a w → IsBelow b w ⊎ IsOutside b w → Path
exchanged a b w (inl under) other = under.0 ++ b
exchanged a b w (inr off) (inl under) = under.0 ++ a
exchanged a b w (inr off) (inr also) = w

-- a path with the two places exchanged
abbrev pub swapped : Path → Path → Path → Path
swapped a b w = exchanged a b w (place a w) (place b w)

module _ (a b : Path) (b_out : IsOutside a b) (a_out : IsOutside b a) where
  never_both : (w : Path) → IsBelow a w → IsBelow b w → ⊥
  never_both w x y = elim (ends_alike x.0 y.0 a b (sym x.1 ∙ y.1)) [ inl h ↦ b_out h.0 h.1 | inr h ↦ a_out h.0 h.1 ]

  pub swapped-first : (r : Path) → swapped a b (r ++ a) ≡ r ++ b
  swapped-first r = of (place a (r ++ a)) (place b (r ++ a))
    where
      of : (x : IsBelow a (r ++ a) ⊎ IsOutside a (r ++ a)) (y : IsBelow b (r ++ a) ⊎ IsOutside b (r ++ a)) → exchanged a b (r ++ a) x y ≡ r ++ b
      of (inl under) y = ap (λ z. z ++ b) (sym (append_cancel_right r under.0 a under.1))
      of (inr off) y = absurd (off r refl)

  pub swapped-second : (r : Path) → swapped a b (r ++ b) ≡ r ++ a
  swapped-second r = of (place a (r ++ b)) (place b (r ++ b))
    where
      of : (x : IsBelow a (r ++ b) ⊎ IsOutside a (r ++ b)) (y : IsBelow b (r ++ b) ⊎ IsOutside b (r ++ b)) → exchanged a b (r ++ b) x y ≡ r ++ a
      of (inl under) y = absurd (never_both (r ++ b) under (r, refl))
      of (inr off) (inl under) = ap (λ z. z ++ a) (sym (append_cancel_right r under.0 b under.1))
      of (inr off) (inr also) = absurd (also r refl)

  pub swapped-neither : (w : Path) → IsOutside a w → IsOutside b w → swapped a b w ≡ w
  swapped-neither w x y = of (place a w) (place b w)
    where
      of : (f : IsBelow a w ⊎ IsOutside a w) (g : IsBelow b w ⊎ IsOutside b w) → exchanged a b w f g ≡ w
      of (inl under) g = absurd (x under.0 under.1)
      of (inr off) (inl under) = absurd (y under.0 under.1)
      of (inr off) (inr also) = refl

  -- a path is at one place or below it, or outside both
  pub by_place : (P : Path → Type 0) → ((r : Path) → P (r ++ a)) → ((r : Path) → P (r ++ b)) → ((w : Path) → IsOutside a w → IsOutside b w → P w) → (w : Path) → P w
  by_place P first second neither w =
      elim (place a w) [
        | inl under ↦ subst P (sym under.1) (first under.0)
        | inr off ↦ elim (place b w) [
          | inl under ↦ subst P (sym under.1) (second under.0)
          | inr also ↦ neither w off also
        ]
      ]

  -- once more, and they are back
  pub swapped-back : (w : Path) → swapped a b (swapped a b w) ≡ w
  swapped-back =
      by_place (λ w. swapped a b (swapped a b w) ≡ w)
      (λ r. ap (swapped a b) (swapped-first r) ∙ swapped-second r)
      (λ r. ap (swapped a b) (swapped-second r) ∙ swapped-first r)
      (λ w x y. ap (swapped a b) (swapped-neither w x y) ∙ swapped-neither w x y)
