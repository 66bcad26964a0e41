-- What a subject leaves of watches, and clients whose watches it doesn't reach.
use Rattle.std.proofs.Common.{◌≡◌, ◌≢◌, ℕ, ℤ, Bool, true, false, cond, not, ◌&&◌, ◌||◌, filter, map, flat_map, slice_index_or, List, [], ◌∷◌, ◌++◌, Some, None, refl, sym, ap, subst, ◌∙◌, nat_eq, eqb-true, ◌⊎◌, inl, inr}
use Rattle.std.specs.List.{AllByRecursion, list_any}
use Rattle.std.proofs.lemmas.Bool.{false≢true, cases_Bool}
use Rattle.ov_base.specs.declared.node_id.NodeId.TheVariants.{New}
use Rattle.ov_base.specs.declared.notice.Event.{Event}
use Rattle.plain_model.specs.Watching.{Rule, Watch, Subject, Instance, Puts, On, Only, IGNORED, is_aimed, is_last, is_numbered, reaches, has_bit, ends, events}
use Rattle.plain_model.specs.Tree.{same_id}
use Rattle.plain_model.specs.Machine.{instance_of, watches_of}
use Rattle.plain_model.proofs.Paths.{ids_tell}
use Rattle.watch_table.specs.Clients.{HearsIf, AreTold, AllHearOne, AreOnlyOn, watches}
use Rattle.watch_table.specs.Listening.{is_on, asked_of, HearsOne}
use Rattle.watch_table.proofs.Clients.{nat_ne}

-- a filter that all pass
pub kept-all : {A : Type 0} (p : A → Bool) (xs : List A) → AllByRecursion (λ x. p x ≡ true) xs → filter p xs ≡ xs
kept-all p [] h = refl
kept-all p (x ∷ xs) h = ap (λ b. cond b (x ∷ filter p xs) (filter p xs)) h.0 ∙ ap (λ ys. x ∷ ys) (kept-all p xs h.1)

pub and-false : (b : Bool) → (b && false) ≡ false
and-false true = refl
and-false false = refl

-- what passes a test among those that stay passes it among all
pub any-filter : {A : Type 0} (f p : A → Bool) (xs : List A) → (list_any f xs && list_any f (filter p xs)) ≡ list_any f (filter p xs)
any-filter f p [] = refl
any-filter {A} f p (x ∷ xs) = by (f x) (p x) refl (any-filter f p xs)
  where
    all : Bool
    all = list_any f xs

    rest : List A
    rest = filter p xs

    by : (b q : Bool) → f x ≡ b → (all && list_any f rest) ≡ list_any f rest →
        ((b || all) && list_any f (cond q (x ∷ rest) rest)) ≡ list_any f (cond q (x ∷ rest) rest)
    by true q e h = refl
    by false true e h = ap (λ y. all && (y || list_any f rest)) e ∙ h ∙ sym (ap (λ y. y || list_any f rest) e)
    by false false e h = h

module _ (shows : Rule) (s : Subject) where
  -- the watches that go on
  abbrev pub stay : ℕ → List Watch → List Watch
  stay c ws = filter (λ w. not (ends c s w)) ws

  -- none of a client's watches is reached
  abbrev pub IsUnreached : Instance → Type 0
  IsUnreached e = AllByRecursion (λ w. reaches e.client s w ≡ false) e.watches

  pub unaimed : (c : ℕ) (w : Watch) → is_aimed c s.aim w ≡ false → reaches c s w ≡ false
  unaimed c w h = ap (λ b. b && (is_last s || has_bit s.bits w.mask)) h

  pub unended : (c : ℕ) (w : Watch) → reaches c s w ≡ false → ends c s w ≡ false
  unended c w h = ap (λ b. b && (w.once || is_last s)) h

  no-events : (c : ℕ) (w : Watch) → reaches c s w ≡ false → events c s w ≡ []
  no-events c w h =
      let told : Bool → List Event = λ b. cond b (record { watch = w.number; bits = s.bits; cookie = s.cookie; name = s.name } ∷ cond
      (w.once && not (is_last s)) (record { watch = w.number; bits = IGNORED; cookie = 0; name = None } ∷ []) []) [] in
      ap told h

  asked-none : (c : ℕ) (tags : List ℕ) (ws : List Watch) → AllByRecursion (λ w. reaches c s w ≡ false) ws →
      flat_map (asked_of c tags s) ws ≡ []
  asked-none c tags [] h = refl
  asked-none c tags (w ∷ ws) h = ap (λ vs. map (λ v. (slice_index_or tags w.slot 0, v)) vs ++ flat_map (asked_of c tags s) ws)
      (no-events c w h.0) ∙ asked-none c tags ws h.1

  stay-all : (c : ℕ) (ws : List Watch) → AllByRecursion (λ w. reaches c s w ≡ false) ws → stay c ws ≡ ws
  stay-all c ws h = kept-all (λ w. not (ends c s w)) ws (by ws h)
    where
      by : (vs : List Watch) → AllByRecursion (λ w. reaches c s w ≡ false) vs → AllByRecursion (λ w. not (ends c s w) ≡ true) vs
      by [] k = tt
      by (v ∷ vs) k = (ap not (unended c v k.0), by vs k.1)

  -- a client none of whose watches is reached hears nothing
  pub hears-none : (e : Instance) → IsUnreached e → HearsOne shows s e e
  hears-none e h = record {
    watches = ap (λ ws. record e { watches = ws }) (sym (stay-all e.client e.watches h));
    queue = subst (λ xs. Puts shows xs e.queue e.queue) (sym (asked-none e.client e.tags e.watches h)) refl;
  }

  -- all hear a subject where those are told whom it reaches
  pub told-all : (ks : List ℕ) (es fs : List Instance) → AllByRecursion
      (λ (e : Instance). list_any (nat_eq e.client) ks ≡ false → IsUnreached e) es → AreTold shows s ks es fs → AllHearOne shows s es fs
  told-all ks [] [] u h = tt
  told-all ks [] (f ∷ fs) u h = h
  told-all ks (e ∷ es) [] u h = h
  told-all ks (e ∷ es) (f ∷ fs) u h = (by (list_any (nat_eq e.client) ks) u.0 h.0, told-all ks es fs u.1 h.1)
    where
      by : (b : Bool) → (b ≡ false → IsUnreached e) → HearsIf shows s b e f → HearsOne shows s e f
      by true n k = k
      by false n k = subst (λ x. HearsOne shows s e x) (sym k) (hears-none e (n refl))

  -- what each client watches after a subject
  pub heard-watches : (es fs : List Instance) → AllHearOne shows s es fs → (n c : ℕ) →
      watches fs n c ≡ is_on n (stay c (watches_of (instance_of es c)))
  heard-watches [] [] h n c = refl
  heard-watches [] (f ∷ fs) h n c = absurd h
  heard-watches (e ∷ es) [] h n c = absurd h
  heard-watches (e ∷ es) (f ∷ fs) h n c =
      ap (λ k. is_on n (watches_of (cond (nat_eq k c) (Some f) (instance_of fs c)))) same
      ∙ by (nat_eq e.client c) refl (heard-watches es fs h.1 n c)
    where
      same : f.client ≡ e.client
      same = ap (λ (x : Instance). x.client) h.0.watches

      left : f.watches ≡ stay e.client e.watches
      left = ap (λ (x : Instance). x.watches) h.0.watches

      by : (b : Bool) → nat_eq e.client c ≡ b → watches fs n c ≡ is_on n (stay c (watches_of (instance_of es c))) →
          is_on n (watches_of (cond b (Some f) (instance_of fs c))) ≡ is_on n (stay c (watches_of (cond b (Some e) (instance_of es c))))
      by true is rest = ap (is_on n) (left ∙ ap (λ k. stay k e.watches) (eqb-true e.client c is))
      by false is rest = rest

  -- an object whose watches all go on
  pub on-stay : (n c : ℕ) (ws : List Watch) → AllByRecursion (λ w. same_id (New n) w.node ≡ true → ends c s w ≡ false) ws →
      is_on n (stay c ws) ≡ is_on n ws
  on-stay n c [] h = refl
  on-stay n c (w ∷ ws) h = by (same_id (New n) w.node) (ends c s w) refl h.0 (on-stay n c ws h.1)
    where
      by : (x b : Bool) → same_id (New n) w.node ≡ x → (x ≡ true → b ≡ false) → is_on n (stay c ws) ≡ is_on n ws →
          is_on n (cond (not b) (w ∷ stay c ws) (stay c ws)) ≡ (x || is_on n ws)
      by true true e k rest = absurd (false≢true (sym (k refl)))
      by true false e k rest = ap (λ y. y || is_on n (stay c ws)) e
      by false true e k rest = rest
      by false false e k rest = ap (λ y. y || is_on n (stay c ws)) e ∙ rest

  -- a subject for one object ends no watch on another
  pub off-object : (o n c : ℕ) (ws : List Watch) → s.aim ≡ On (New o) → n ≢ o →
      AllByRecursion (λ w. same_id (New n) w.node ≡ true → ends c s w ≡ false) ws
  off-object o n c [] a ne = tt
  off-object o n c (w ∷ ws) a ne = (
    (λ t. unended c w (unaimed c w (ap (λ x. is_aimed c x w) a ∙ ap (λ d. same_id (New o) d) (sym ((ids_tell (New n) w.node).0 t))
        ∙ nat_ne o n (λ same. ne (sym same))))),
    off-object o n c ws a ne,
  )

  -- a subject for the watch of a number ends no watch on another object than that watch's
  pub off-number : (k : ℕ) (number : ℤ) (o n c : ℕ) (ws : List Watch) → s.aim ≡ Only k number → n ≢ o →
      (nat_eq c k ≡ true → AreOnlyOn number o ws) → AllByRecursion (λ w. same_id (New n) w.node ≡ true → ends c s w ≡ false) ws
  off-number k number o n c [] a ne one = tt
  off-number k number o n c (w ∷ ws) a ne one = (
    (λ t. unended c w
        (unaimed c w (ap (λ x. is_aimed c x w) a ∙ by t (cases_Bool (nat_eq c k))))),
    off-number k number o n c ws a ne (λ t. (one t).1),
  )
    where
      new-same : {i j : ℕ} → New i ≡ New j → i ≡ j
      new-same e = cc

      by : same_id (New n) w.node ≡ true → (nat_eq c k ≡ true) ⊎ (nat_eq c k ≡ false) → (nat_eq c k && is_numbered number w) ≡ false
      by t (inr f) = ap (λ b. b && is_numbered number w) f
      by t (inl q) = elim (cases_Bool (is_numbered number w)) [
        | inl u ↦ absurd (ne (new-same ((ids_tell (New n) w.node).0 t ∙ (one q).0 u)))
        | inr f ↦ ap (λ b. nat_eq c k && b) f ∙ and-false (nat_eq c k)
      ]
