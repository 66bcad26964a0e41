-- Clients that are told of a subject.
use Rattle.std.proofs.Common.{◌≡◌, ℕ, zero, suc, ◌<◌, ◌≤◌, Bool, true, false, cond, not, ◌||◌, List, [], ◌∷◌, ◌++◌, Some, filter, length, get_or, set, take, nat_lt, refl, sym, ap, subst, ◌∙◌, arith, inl, inr, nat_eq, eqb-true, eq-eqb}
use Rattle.std.specs.List.{list_any, IsDistinct}
use Rattle.std.proofs.lemmas.Bool.{false≢true, cases_Bool}
use Rattle.std.proofs.lemmas.Bool.Decides.{nat_tests}
use Rattle.std.proofs.lemmas.Cmp.{nat_eq_equiv}
use Rattle.std.proofs.lemmas.List.Elements.{All-get_or, All-from_recursion}
use Rattle.std.proofs.lemmas.List.Folds.{list_any-append}
use Rattle.std.proofs.lemmas.List.Sums.{length-filter, count_by-le-length}
use Rattle.std.proofs.lemmas.Map.Keys.{IsDistinct-head, IsDistinct-tail}
use Rattle.plain_model.specs.Watching.{Rule, Subject, Watch, Instance, ends}
use Rattle.plain_model.specs.Machine.{instance_of, watches_of}
use Rattle.watch_table.specs.Clients.{clients_of, AreRising, IsPlace, HearsIf, AreTold, KeepWatches, watches}
use Rattle.watch_table.specs.Listening.{HearsOne, is_on}
use Rattle.watch_table.proofs.Clients.{IsAbsent, above-absent, nat_ne}

module _ (shows : Rule) (s : Subject) where
  -- who hears a subject stays the same client
  pub hears-client : (b : Bool) (e f : Instance) → HearsIf shows s b e f → f.client ≡ e.client
  hears-client true e f h = ap (λ (x : Instance). x.client) h.watches
  hears-client false e f h = ap (λ (x : Instance). x.client) h

  pub told-clients : (ks : List ℕ) (es fs : List Instance) → AreTold shows s ks es fs → clients_of fs ≡ clients_of es
  told-clients ks [] [] h = refl
  told-clients ks [] (f ∷ fs) h = absurd h
  told-clients ks (e ∷ es) [] h = absurd h
  told-clients ks (e ∷ es) (f ∷ fs) h =
      ap (λ c. c ∷ clients_of fs) (hears-client (list_any (nat_eq e.client) ks) e f h.0)
      ∙ ap (λ cs. e.client ∷ cs) (told-clients ks es fs h.1)

  -- nobody is told
  pub told-none : (es : List Instance) → AreTold shows s [] es es
  told-none [] = tt
  told-none (e ∷ es) = (refl, told-none es)

  -- only one who isn't there
  pub told-absent : (c : ℕ) (es : List Instance) → IsAbsent c es → AreTold shows s (c ∷ []) es es
  told-absent c [] h = tt
  told-absent c (e ∷ es) h = (subst (λ b. HearsIf shows s (b || false) e e) (sym (nat_ne e.client c h.0)) refl, told-absent c es h.1)

  -- one client, at its place
  pub told-one : (c i : ℕ) (es : List Instance) (d y : Instance) → IsPlace c i es → AreRising (clients_of es) →
      HearsOne shows s (get_or es i d) y → AreTold shows s (c ∷ []) es (set es i y)
  told-one c i [] d y h a t = absurd h
  told-one c zero (e ∷ es) d y h a t = (
    subst (λ b. HearsIf shows s (b || false) e y) (sym (eq-eqb e.client c h)) t,
    told-absent c es
        (subst (λ n. IsAbsent n es) h (above-absent e.client es a.0)),
  )
  told-one c (suc i) (e ∷ es) d y h a t = (
    subst (λ b. HearsIf shows s (b || false) e e)
        (sym (nat_ne e.client c h.0)) refl,
    told-one c i es d y h.1 a.1 t,
  )

  hears-more : (x y : Bool) (e f g : Instance) → HearsIf shows s x e f → HearsIf shows s y f g → (x ≡ true → y ≡ false) →
      HearsIf shows s (x || y) e g
  hears-more true true e f g h k n = absurd (false≢true (sym (n refl)))
  hears-more true false e f g h k n = subst (HearsOne shows s e) (sym k) h
  hears-more false true e f g h k n = subst (λ x. HearsOne shows s x g) h k
  hears-more false false e f g h k n = k ∙ h

  -- one client more
  pub told-more : (ks : List ℕ) (c : ℕ) (es fs gs : List Instance) → AreTold shows s ks es fs → AreTold shows s (c ∷ []) fs gs →
      list_any (nat_eq c) ks ≡ false → AreTold shows s (ks ++ c ∷ []) es gs
  told-more ks c [] [] [] h k n = tt
  told-more ks c [] [] (g ∷ gs) h k n = absurd k
  told-more ks c [] (f ∷ fs) gs h k n = absurd h
  told-more ks c (e ∷ es) [] gs h k n = absurd h
  told-more ks c (e ∷ es) (f ∷ fs) [] h k n = absurd k
  told-more ks c (e ∷ es) (f ∷ fs) (g ∷ gs) h k n =
      let same = hears-client (list_any (nat_eq e.client) ks) e f h.0 in
      let second : HearsIf shows s (list_any (nat_eq e.client) (c ∷ [])) f g =
      subst (λ x. HearsIf shows s (list_any (nat_eq x) (c ∷ [])) f g) same k.0 in (
        subst (λ b. HearsIf shows s b e g) (sym (list_any-append (nat_eq e.client) ks (c ∷ [])))
            (hears-more (list_any (nat_eq e.client) ks) (list_any (nat_eq e.client) (c ∷ [])) e f g h.0 second
            (λ t. elim (cases_Bool (nat_eq e.client c)) [
              | inl same ↦ absurd (false≢true (sym n ∙ subst (λ x. list_any (nat_eq x) ks ≡ true) (eqb-true e.client c same) t))
              | inr other ↦ ap (λ b. b || false) other
            ])),
        told-more ks c es fs gs h.1 k.1 n,
      )

-- none of the clients before one is the same
pub before-apart : (ks : List ℕ) (i d : ℕ) → IsDistinct nat_eq ks → i < length ks → list_any (nat_eq (get_or ks i d)) (take i ks) ≡ false
before-apart [] i d h b = absurd (omega arith)
before-apart (k ∷ ks) zero d h b = refl
before-apart (k ∷ ks) (suc i) d h b =
    let n : i < length ks = omega arith in
    let head = All-get_or (λ y. nat_eq k y ≡ false) ks i d n
    (All-from_recursion (λ y. nat_eq k y ≡ false) ks (IsDistinct-head nat_eq k ks h)) in
    ap (λ b. b || list_any (nat_eq (get_or ks i d)) (take i ks)) (nat_eq_equiv.symm (get_or ks i d) k ∙ head)
    ∙ before-apart ks i d (IsDistinct-tail nat_eq k ks h) n

-- instances where one became another of the same client and watches
pub KeepWatches-set : (i : ℕ) (es : List Instance) (d y : Instance) → i < length es → y.client ≡ (get_or es i d).client →
    y.watches ≡ (get_or es i d).watches → KeepWatches es (set es i y)
KeepWatches-set i [] d y b client same o k = absurd (omega arith)
KeepWatches-set zero (e ∷ es) d y b client same o k =
    ap (λ n. is_on o (watches_of (cond (nat_eq n k) (Some y) (instance_of es k)))) client ∙ by (nat_eq e.client k)
  where
    by : (q : Bool) → is_on o (watches_of (cond q (Some y) (instance_of es k))) ≡ is_on o (watches_of (cond q (Some e) (instance_of es k)))
    by true = ap (is_on o) same
    by false = refl
KeepWatches-set (suc i) (e ∷ es) d y b client same o k = let n : i < length es = omega arith in
    by (nat_eq e.client k) (KeepWatches-set i es d y n client same o k)
  where
    by : (q : Bool) → watches (set es i y) o k ≡ watches es o k →
        is_on o (watches_of (cond q (Some e) (instance_of (set es i y) k))) ≡ is_on o (watches_of (cond q (Some e) (instance_of es k)))
    by true h = refl
    by false h = h

-- no more come through a filter than went in
pub short-filter : {A : Type 0} (p : A → Bool) (xs : List A) → length (filter p xs) ≤ length xs
short-filter p xs = omega (arith, length-filter p xs, count_by-le-length p xs)

-- a filter through which as many come as went in
full-filter : {A : Type 0} (p : A → Bool) (xs : List A) → length xs ≤ length (filter p xs) → filter p xs ≡ xs
full-filter p [] h = refl
full-filter {A} p (x ∷ xs) h = by (p x) h (full-filter p xs)
  where
    by : (b : Bool) → length (x ∷ xs) ≤ length (cond b (x ∷ filter p xs) (filter p xs)) →
        (length xs ≤ length (filter p xs) → filter p xs ≡ xs) → cond b (x ∷ filter p xs) (filter p xs) ≡ x ∷ xs
    by true k rest = ap (λ ys. x ∷ ys) (rest (omega (arith, k)))
    by false k rest = let short = short-filter p xs in absurd (omega (arith, k, short))

-- an instance that hears a subject and has as many watches after it keeps them
pub hears-kept : (shows : Rule) (s : Subject) (e f : Instance) → HearsOne shows s e f → nat_lt (length f.watches) (length e.watches) ≡ false →
    f.watches ≡ e.watches
hears-kept shows s e f h few =
    let p : Watch → Bool = λ w. not (ends e.client s w) in
    let stay : f.watches ≡ filter p e.watches = ap (λ (x : Instance). x.watches) h.watches in
    let all : length e.watches ≤ length f.watches = grind (arith, nat_tests, few) in
    stay ∙ full-filter p e.watches (subst (λ ws. length e.watches ≤ length ws) stay all)
