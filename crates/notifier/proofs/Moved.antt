-- Where what is tracked is after a rename.
use Rattle.std.proofs.Common.{◌≡◌, ◌≢◌, ℕ, [], ◌∷◌, ◌++◌, Option, None, Some, IsSome, is_some, refl, sym, ap, subst, ◌∙◌, inl, inr}
use Rattle.std.specs.Prelude.{◌⊎◌, IfSome}
use Rattle.std.proofs.lemmas.Bool.{cases_eq}
use Rattle.plain_model.specs.Layers.{Path}
use Rattle.plain_model.specs.Laws.{IsOutside}
use Rattle.plain_model.proofs.Paths.{place}
use Rattle.object_table.specs.Objects.{Objects, Spot, At, Upper, Nowhere, IsBare, IsVacant, MovesSpots, NoneBelow, SameSpots, SetsSpot, holders_of, spot_of}
use Rattle.notice_laws.specs.declared.object.Object.{Object}
use Rattle.notice_laws.specs.declared.object.Object.TheVariants as object
use Rattle.notice_laws.specs.Moves.{Moves, Goes, Rises, Lost, Rests}
use Rattle.notice_laws.specs.Objects.{IsNumberAt, IsNumberOf}
use Rattle.notice_laws.specs.Steps.{IsSpotOf, Lifts, Loses, is_last_name}
use Rattle.notifier.specs.Notifying.{Becomes, IsBareAt}
use Rattle.notifier.specs.Moving.{IsFreeFor, MayHold}

-- what has a number is tracked
pub number-there : (t : Objects) (p : Path) (o : Object) (r : Option ℕ) (n : ℕ) → r ≡ Some n → IsNumberOf t p o r → IsSome (spot_of t n)
number-there t p object.Directory r n is h = ap is_some (subst (IsNumberAt t (At p)) is h)
number-there t p object.Lower r n is h = ap is_some (subst (IsNumberAt t (At p)) is h)
number-there t p (object.Upper key last) r n is h = ap is_some (subst (IsNumberAt t (Upper key)) is h)
number-there t p object.Other r n is h = absurd (let z : Some n ≡ None = sym is ∙ h in cc)

-- what is at a bare path may leave it
pub spot-bare : (t : Objects) (p : Path) (n : ℕ) → IsBareAt t p → spot_of t n ≡ Some (At p) → IsBare t n
spot-bare t p n bare here q at =
    let is : Some (At p) ≡ Some (At q) = sym here ∙ at in
    let same : p ≡ q = cc in
    subst (IsBareAt t) same bare

-- so may what has the number that is found there
pub number-bare : (t : Objects) (p : Path) (o : Object) (r : Option ℕ) (n : ℕ) → IsBareAt t p → r ≡ Some n → IsNumberOf t p o r → IsBare t n
number-bare t p object.Directory r n bare is h = spot-bare t p n bare (subst (IsNumberAt t (At p)) is h)
number-bare t p object.Lower r n bare is h = spot-bare t p n bare (subst (IsNumberAt t (At p)) is h)
number-bare t p (object.Upper key last) r n bare is h = λ q at.
    absurd (let z : Some (Upper key) ≡ Some (At q) = sym (subst (IsNumberAt t (Upper key)) is h) ∙ at in cc)
number-bare t p object.Other r n bare is h = absurd (let z : Some n ≡ None = sym is ∙ h in cc)

-- what is at a path is no file of the upper
pub path-low : (t : Objects) (p : Path) (n key : ℕ) → spot_of t n ≡ Some (At p) → spot_of t n ≢ Some (Upper key)
path-low t p n key here up = let z : Some (At p) ≡ Some (Upper key) = sym here ∙ up in cc

-- what loses a name was where it is, or is nowhere
lost-there : (q : Path) (e : Object) (old mid : Objects) → Becomes (Loses q e) old mid → (n : ℕ) (spot : Spot) → spot ≢ Nowhere →
    spot_of mid n ≡ Some spot → spot_of old n ≡ Some spot
lost-there q e old mid lost n spot there is =
    let was = lost n spot is in
    elim was.2 [
      | inl gone ↦ absurd (there gone.2)
      | inr same ↦ was.1 ∙ ap Some (sym same.1)
    ]

-- a file moves: what is replaced loses a name, and a file of a lower layer is in the upper
file-spot : (p q : Path) (o e : Object) (key : ℕ) (was mid spot : Spot) → o ≢ object.Directory → Loses q e was mid → Lifts p o key mid spot →
    Moves p q o e key was spot
file-spot p q object.Directory e key was mid spot file lost lifts = absurd (file refl)
file-spot p q object.Lower e key was mid spot file (inl gone) (inl up) = absurd (let z : Nowhere ≡ At p = sym gone.2 ∙ up.0 in cc)
file-spot p q object.Lower e key was mid spot file (inl gone) (inr same) = Lost gone.0 gone.1 (same.1 ∙ gone.2)
file-spot p q object.Lower e key was mid spot file (inr there) (inl up) = Rises refl (sym there.1 ∙ up.0) up.1
file-spot p q object.Lower e key was mid spot file (inr there) (inr same) =
    Rests (λ x. cc) (λ x y. same.0 (there.1 ∙ y)) there.0 (same.1 ∙ there.1)
file-spot p q (object.Upper k last) e key was mid spot file (inl gone) same = Lost gone.0 gone.1 (same ∙ gone.2)
file-spot p q (object.Upper k last) e key was mid spot file (inr there) same = Rests (λ x. cc) (λ x. cc) there.0 (same ∙ there.1)
file-spot p q object.Other e key was mid spot file (inl gone) same = Lost gone.0 gone.1 (same ∙ gone.2)
file-spot p q object.Other e key was mid spot file (inr there) same = Rests (λ x. cc) (λ x. cc) there.0 (same ∙ there.1)

-- what moves has the number that was found
module _ (p q : Path) (e : Object) (key : ℕ) (old mid : Objects) (lost : Becomes (Loses q e) old mid) where
  -- a file that isn't copied up, or isn't tracked, stays where it is
  pub left-spots : (o : Object) → o ≢ object.Directory → (o ≡ object.Lower → IsVacant old (At p)) → Becomes (Moves p q o e key) old mid
  left-spots o file none n spot is =
      let was = lost n spot is in
      (was.0, was.1, file-spot p q o e key was.0 spot spot file was.2 (by o none))
    where
      by : (x : Object) → (x ≡ object.Lower → IsVacant old (At p)) → Lifts p x key spot spot
      by object.Lower free = inr (λ at. free refl n (lost-there q e old mid lost n (At p) (λ x. cc) (is ∙ ap Some at)), refl)
      by object.Directory free = refl
      by (object.Upper k last) free = refl
      by object.Other free = refl

  -- what was at a bare path may leave it still
  pub bare-risen : IsBareAt old p → (n : ℕ) → spot_of old n ≡ Some (At p) → IsBare mid n
  bare-risen bare n at = λ x there.
      let is : Some (At p) ≡ Some (At x) = sym at ∙ lost-there q e old mid lost n (At x) (λ z. cc) there in
      let same : p ≡ x = cc in
      subst (IsBareAt mid) same
      (bare.0, λ m name r below. bare.1 m name r (lost-there q e old mid lost m (At (name ∷ (r ++ p))) (λ z. cc) below))

  -- and it is no file of the upper
  pub low-risen : (n k : ℕ) → spot_of old n ≡ Some (At p) → spot_of mid n ≢ Some (Upper k)
  low-risen n k at up = path-low old p n k at (lost-there q e old mid lost n (Upper k) (λ z. cc) up)

  -- its key is free then
  pub free-risen : IsFreeFor old p q object.Lower e key → (n : ℕ) → spot_of old n ≡ Some (At p) → IsVacant mid (Upper key)
  free-risen free n at m up =
      let was = lost m (Upper key) up in
      elim was.2 [
        | inl gone ↦ (let z : Upper key ≡ Nowhere = gone.2 in cc)
        | inr same ↦
            (let here = (free n at).0 m (was.1 ∙ ap Some (sym same.1)) in
            same.0 here.0 (subst (IsSpotOf q e) same.1 here.1))
      ]

  -- one of a lower layer is in the upper
  pub risen-spots :
      (m : ℕ) → spot_of old m ≡ Some (At p) → ((n : ℕ) → spot_of old n ≡ Some (At p) → n ≡ m) → (new : Objects) (count : ℕ) →
      SetsSpot mid new m (Some (Upper key)) count → Becomes (Moves p q object.Lower e key) old new
  risen-spots m at one new count sets n spot is = elim (cases_eq n m) [
    | inl same ↦
        (let z : Some spot ≡ Some (Upper key) = sym is ∙ ap (spot_of new) same ∙ sets.here in
        (At p, ap (spot_of old) same ∙ at, Rises refl refl cc))
    | inr off ↦
        (let there = sym (sets.other_spots n off) ∙ is in
        let was = lost n spot there in (
          was.0,
          was.1,
          file-spot p q object.Lower e key was.0 spot spot (λ x. cc) was.2
              (inr (λ up. off (one n (lost-there q e old mid lost n (At p) (λ x. cc) (there ∙ ap Some up))), refl)),
        ))
  ]

-- one of a lower layer moved, tracked or not
pub lifted :
    (p q : Path) (e : Object) (key : ℕ) (old mid new : Objects) → Becomes (Loses q e) old mid →
    ((spot : Spot) (m n : ℕ) → spot ≢ Nowhere → spot_of old m ≡ Some spot → spot_of old n ≡ Some spot → m ≡ n) →
    (number : Option ℕ) → IsNumberOf old p object.Lower number →
    IfSome number (λ m. SetsSpot mid new m (Some (Upper key)) (holders_of mid m)) → (number ≡ None → new ≡ mid) →
    Becomes (Moves p q object.Lower e key) old new
lifted p q e key old mid new lost one None found rises none =
    subst (Becomes (Moves p q object.Lower e key) old) (sym (none refl))
    (left-spots p q e key old mid lost object.Lower (λ x. cc) (λ _. found))
lifted p q e key old mid new lost one (Some m) found rises none =
    risen-spots p q e key old mid lost m found (λ n at. one (At p) n m (λ x. cc) at found) new (holders_of mid m) rises

-- A DIRECTORY MOVES with what is below it, and a directory is replaced, or nothing
module _ (old new : Objects) (p q : Path) (e : Object) (key : ℕ) (moves : MovesSpots old new p q) (below : NoneBelow old q)
    (replaced : (e ≡ object.Directory) ⊎ ((e ≡ object.Other) × IsVacant old (At q))) where
  abbrev To : Spot → Spot → Type 0
  To = Moves p q object.Directory e key

  -- only what is at the new place is replaced
  spot-replaced : (was : Spot) → IsSpotOf q e was → was ≡ At q
  spot-replaced was there = elim replaced [
    | inl d ↦ subst (λ x. IsSpotOf q x was) d there
    | inr none ↦ absurd (subst (λ x. IsSpotOf q x was) none.0 there)
  ]

  -- what is at neither place stays
  stays : (n : ℕ) (was spot : Spot) → spot_of old n ≡ Some was → spot_of new n ≡ Some spot → ((r : Path) → was ≢ At (r ++ p)) → was ≢ At q →
      To was spot
  stays n was spot at is off away =
      let same : spot_of new n ≡ spot_of old n
      = moves.outside n (λ r x. off r (inside (sym at ∙ x))) (λ x. away (inside (sym at ∙ x))) in
      Rests (λ _. off) (λ x. cc) (λ last there. away (spot-replaced was there)) (inside (sym is ∙ same ∙ at))
    where
      inside : {a b : Spot} → Some a ≡ Some b → a ≡ b
      inside h = cc

  -- what is at the new place is nowhere then
  goes-nowhere : (n : ℕ) (spot : Spot) → spot_of old n ≡ Some (At q) → spot_of new n ≡ Some spot → To (At q) spot
  goes-nowhere n spot at is = elim replaced [
    | inl d ↦ (let gone : Some spot ≡ Some Nowhere = sym is ∙ moves.replaced n at in
        Lost (ap is_last_name d) (subst (λ x. IsSpotOf q x (At q)) (sym d) refl) cc)
    | inr none ↦ absurd (none.1 n at)
  ]

  at-path : (n : ℕ) (x : Path) (spot : Spot) → spot_of old n ≡ Some (At x) → spot_of new n ≡ Some spot → To (At x) spot
  at-path n x spot at is = elim (place p x) [
    | inl b ↦ (let along : Some spot ≡ Some (At (b.0 ++ q)) = sym is ∙ moves.inside n b.0 (at ∙ ap (λ y. Some (At y)) b.1) in
        Goes b.0 refl (ap At b.1) cc)
    | inr out ↦ elim (place q x) [
      | inl b ↦ at-new b.0 b.1 out
      | inr off ↦ stays n (At x) spot at is (λ r same. out r (path same)) (λ same. off [] (path same))
    ]
  ]
    where
      path : {a b : Path} → At a ≡ At b → a ≡ b
      path h = cc

      at-new : (r : Path) → x ≡ r ++ q → IsOutside p x → To (At x) spot
      at-new [] same out = subst (λ y. To (At y) spot) (sym same) (goes-nowhere n spot (at ∙ ap (λ y. Some (At y)) same) is)
      at-new (k ∷ r) same out = absurd (below n k r (at ∙ ap (λ y. Some (At y)) same))

  directory-spot : (n : ℕ) (was spot : Spot) → spot_of old n ≡ Some was → spot_of new n ≡ Some spot → To was spot
  directory-spot n (At x) spot at is = at-path n x spot at is
  directory-spot n (Upper k) spot at is = stays n (Upper k) spot at is (λ r x. cc) (λ x. cc)
  directory-spot n Nowhere spot at is = stays n Nowhere spot at is (λ r x. cc) (λ x. cc)

  pub directory-spots : Becomes To old new
  directory-spots n spot is = by (spot_of old n) refl
    where
      by : (r : Option Spot) → spot_of old n ≡ r → (was : Spot) × (spot_of old n ≡ Some was) × To was spot
      by (Some was) at = (was, at, directory-spot n was spot at is)
      by None at =
          let none : spot_of new n ≡ spot_of old n
          = moves.outside n (λ r x. let z : None ≡ Some (At (r ++ p)) = sym at ∙ x in cc) (λ x. let z : None ≡ Some (At q) = sym at ∙ x in cc) in
          let z : Some spot ≡ None = sym is ∙ none ∙ at in
          cc

-- WHERE SPOTS STAY what may be held is held still
pub held-same : (a b c : Objects) (q : Path) → MayHold a b q → SameSpots b c → MayHold a c q
held-same a b c [] few same = λ n spot is. few n spot (sym (same.spots n) ∙ is)
held-same a b c (k ∷ q) (inl few) same = inl (λ n spot is. few n spot (sym (same.spots n) ∙ is))
held-same a b c (k ∷ q) (inr more) same = inr (record {
  held = more.held;
  number = more.number;
  holds = more.holds;
  fewer = λ n spot is. more.fewer n spot (sym (same.spots n) ∙ is);
})
