-- How many watch an object that one client armed, and what was held for it.
use Rattle.std.proofs.Common.{◌≡◌, ◌≢◌, ℕ, ◌+◌, ◌-◌, ◌≤◌, Bool, true, false, cond, ◌||◌, ◌⊎◌, inl, inr, List, [], ◌∷◌, Option, None, Some, Result, Ok, Err, refl, sym, ap, subst, ◌∙◌, arith, nat_eq, eqb-true, eq-eqb}
use Rattle.std.specs.Prelude.{◌↔◌, IfOk, OnOk, OnErr, is_some}
use Rattle.std.proofs.lemmas.Bool.{false≢true, cases_Bool}
use Rattle.ov_base.specs.declared.node_id.NodeId.TheVariants.{New}
use Rattle.std.specs.declared.alloc.AllocError.{AllocError}
use Rattle.ov_base.specs.declared.errno.Errno.{Errno}
use Rattle.plain_model.specs.Layers.{Path}
use Rattle.plain_model.specs.Watching.{Instance, On}
use Rattle.plain_model.specs.Alike.{is_watched}
use Rattle.plain_model.specs.Changes.{armed_on, at_client}
use Rattle.object_table.specs.Objects.{Objects, Spot, Nowhere, spot_of, holders_of, spot_left, IsVacant, SetsSpot, Holds}
use Rattle.watch_table.specs.Clients.{AreRising, clients_of}
use Rattle.watch_table.specs.Listening.{is_on}
use Rattle.watch_table.proofs.Arming.{unwatched-arm}
use Rattle.watch_table.proofs.Clients.{IsAbsent, above-absent, absent-at_client, nat_ne}
use Rattle.watch_table.proofs.Indexing.{armed-on}
use Rattle.notice_laws.specs.Notified.{AreKnown, Notified}
use Rattle.notice_laws.specs.declared.object.Object.{Object}
use Rattle.notice_laws.specs.declared.object.Object.TheVariants as object
use Rattle.notice_laws.specs.Objects.{IsNumberAt, IsNumberOf}
use Rattle.notice_laws.specs.Opens.{AreFewer}
use Rattle.notice_laws.specs.Steps.{IsSpotOf}
use Rattle.notice_laws.proofs.Numbers.{number-at}
use Rattle.notifier.specs.Arming.{ArmsAt, IsArmJudged, refusal_of, watch_of}
use Rattle.notifier.specs.Opening.{HoldsObject}
use Rattle.notifier.specs.Notifying.{watchers}
use Rattle.notifier.proofs.Hearing.{one-more}

-- at most one client more watches the object of a number, and as many each other
pub record WatchesMore (es fs : List Instance) (o : ℕ) : Type 0 where
  pub least : watchers es o ≤ watchers fs o
  pub most : watchers fs o ≤ watchers es o + 1
  pub others : (n : ℕ) → n ≢ o → watchers fs n ≡ watchers es n

pub none-more : (es : List Instance) (o : ℕ) → WatchesMore es es o
none-more es o = record { least = omega arith; most = omega arith; others = λ n ne. refl }

module _ (c slot o mask : ℕ) where
  -- an instance where the object is armed
  abbrev pub arms : Instance → Instance
  arms = armed_on slot (Some (New o)) mask

  -- as many watch every other object as before
  others-armed : (n : ℕ) → n ≢ o → (es : List Instance) → watchers (at_client c arms es) n ≡ watchers es n
  others-armed n ne [] = refl
  others-armed n ne (e ∷ es) =
      one-more n (cond (nat_eq e.client c) (arms e) e) (at_client c arms es)
      ∙ ap (λ b. cond b 1 0 + watchers (at_client c arms es) n) (here (nat_eq e.client c))
      ∙ ap (λ m. cond (is_on n e.watches) 1 0 + m) (others-armed n ne es)
      ∙ sym (one-more n e es)
    where
      or-false : (b : Bool) → (b || false) ≡ b
      or-false true = refl
      or-false false = refl

      here : (b : Bool) → is_on n (cond b (arms e) e).watches ≡ is_on n e.watches
      here true = armed-on slot o mask n e ∙ ap (λ b. is_on n e.watches || b) (nat_ne n o ne) ∙ or-false (is_on n e.watches)
      here false = refl

  one-step : (a b : Bool) (m : ℕ) → (a ≡ true → b ≡ true) → (cond a 1 0 + m ≤ cond b 1 0 + m) × (cond b 1 0 + m ≤ cond a 1 0 + m + 1)
  one-step true true m h = (omega arith, omega arith)
  one-step true false m h = absurd (false≢true (h refl))
  one-step false true m h = (omega arith, omega arith)
  one-step false false m h = (omega arith, omega arith)

  -- and at most one more watches this one
  one-armed : (es : List Instance) → AreRising (clients_of es) →
      (watchers es o ≤ watchers (at_client c arms es) o) × (watchers (at_client c arms es) o ≤ watchers es o + 1)
  one-armed [] rising = (omega arith, omega arith)
  one-armed (e ∷ es) rising = elim (cases_Bool (nat_eq e.client c)) [
    | inl q ↦
        let absent = subst (λ k. IsAbsent k es) (eqb-true e.client c q) (above-absent e.client es rising.0) in
        let same : at_client c arms (e ∷ es) ≡ arms e ∷ es =
        ap (λ b. cond b (arms e) e ∷ at_client c arms es) q ∙ ap (λ xs. arms e ∷ xs) (absent-at_client c arms es absent) in
        let new : watchers (at_client c arms (e ∷ es)) o ≡ cond (is_on o (arms e).watches) 1 0 + watchers es o =
        ap (λ xs. watchers xs o) same ∙ one-more o (arms e) es in
        let old = one-more o e es in
        let step = one-step (is_on o e.watches) (is_on o (arms e).watches) (watchers es o)
        (λ on. armed-on slot o mask o e ∙ ap (λ b. b || nat_eq o o) on) in
        let least = step.0 in
        let most = step.1 in
        (omega arith, omega arith)
    | inr f ↦
        let new : watchers (at_client c arms (e ∷ es)) o ≡ cond (is_on o e.watches) 1 0 + watchers (at_client c arms es) o =
        ap (λ b. watchers (cond b (arms e) e ∷ at_client c arms es) o) f ∙ one-more o e (at_client c arms es) in
        let old = one-more o e es in
        let rest = one-armed es rising.1 in
        let least = rest.0 in
        let most = rest.1 in
        (omega arith, omega arith)
  ]

  pub more-armed : (es fs : List Instance) → AreRising (clients_of es) → (fs ≡ at_client c arms es) ⊎ (fs ≡ es) → WatchesMore es fs o
  more-armed es fs rising (inl is) =
      let both = one-armed es rising in
      subst (λ xs. WatchesMore es xs o) (sym is)
      (record { least = both.0; most = both.1; others = λ n ne. others-armed n ne es })
  more-armed es fs rising (inr is) = subst (λ xs. WatchesMore es xs o) (sym is) (none-more es o)

-- an arm was done, or left all
pub outcome-of : {A F D L : Type 0} (r : Result A F) → OnOk r D → OnErr r L → D ⊎ L
outcome-of (Ok a) done left = inl done
outcome-of (Err f) done left = inr left

-- numbers that are told apart differ
ne : (m n : ℕ) → nat_eq m n ≡ false → m ≢ n
ne m n f same = false≢true (sym f ∙ eq-eqb m n same)

-- what one holder more has of an object of which some let go
module _ (old held new : Objects) (spot : Spot) (o less : ℕ) (holds : Holds old held spot o)
    (lets : SetsSpot held new o (spot_left (holders_of held o - less) (spot_of held o)) (holders_of held o - less)) where
  -- no more is tracked
  pub lets-fewer : AreFewer held new
  lets-fewer n at is = elim (cases_Bool (nat_eq n o)) [
    | inl q ↦ subst (λ k. spot_of held k ≡ Some at) (sym (eqb-true n o q))
        (left (nat_eq (holders_of held o - less) 0) (sym lets.here ∙ subst (λ k. spot_of new k ≡ Some at) (eqb-true n o q) is))
    | inr f ↦ sym (lets.other_spots n (ne n o f)) ∙ is
  ]
    where
      left : (b : Bool) → cond b None (spot_of held o) ≡ Some at → spot_of held o ≡ Some at
      left true h = cc
      left false h = h

  -- the holders are counted, where as many let go as don't watch it now
  pub counted-armed : (uses : ℕ → ℕ) (es fs : List Instance) → ((n : ℕ) → holders_of old n ≡ uses n + watchers es n) → WatchesMore es fs o →
      less ≡ 1 - (watchers fs o - watchers es o) → (n : ℕ) → holders_of new n ≡ uses n + watchers fs n
  counted-armed uses es fs counts more is n = elim (cases_Bool (nat_eq n o)) [
    | inl q ↦ subst (λ k. holders_of new k ≡ uses k + watchers fs k) (sym (eqb-true n o q))
        (let here = lets.held in
        let before = holds.sets.held in
        let all = counts o in
        let least = more.least in
        let most = more.most in
        omega arith)
    | inr f ↦ lets.other_holders n (ne n o f) ∙ holds.sets.other_holders n (ne n o f) ∙ counts n
        ∙ ap (λ m. uses n + m) (sym (more.others n (ne n o f)))
  ]

  -- where just that holder lets go, each object is where it was
  pub lets-alike : ((n : ℕ) → (spot_of old n ≡ None) ↔ (holders_of old n ≡ 0)) → less ≡ 1 → (n : ℕ) → spot_of new n ≡ spot_of old n
  lets-alike counted one n = elim (cases_Bool (nat_eq n o)) [
    | inl q ↦ subst (λ k. spot_of new k ≡ spot_of old k) (sym (eqb-true n o q)) (lets.here ∙ here)
    | inr f ↦ lets.other_spots n (ne n o f) ∙ holds.sets.other_spots n (ne n o f)
  ]
    where
      left : holders_of held o - less ≡ holders_of old o
      left = let before = holds.sets.held in omega arith

      back : (r : Option Spot) → ((r ≡ None) ↔ (holders_of old o ≡ 0)) → (r ≡ Some spot) ⊎ (r ≡ None) → spot_left (holders_of old o) (Some spot) ≡ r
      back r is (inl at) =
          ap (λ b. cond b None (Some spot)) (nat_ne (holders_of old o) 0 (λ zero. some (sym at ∙ is.1 zero))) ∙ sym at
        where
          some : Some spot ≡ None → ⊥
          some h = cc
      back r is (inr none) = ap (λ b. cond b None (Some spot)) (eq-eqb (holders_of old o) 0 (is.0 none)) ∙ sym none

      was : (spot_of old o ≡ Some spot) ⊎ (spot_of old o ≡ None)
      was = elim holds.was [ inl a ↦ inl a | inr b ↦ inr b.1 ]

      here : spot_left (holders_of held o - less) (spot_of held o) ≡ spot_of old o
      here =
          ap (λ m. spot_left m (spot_of held o)) left ∙ ap (spot_left (holders_of old o)) holds.sets.here
          ∙ back (spot_of old o) (counted o) was

-- a slot is armed on what is held
pub arms-at : (old new : Notified) (held : Objects) (c slot mask number : ℕ) (p : Path) (o : Object) → HoldsObject old.objects held p o number →
    AreFewer held new.objects → new.handles ≡ old.handles → new.renames ≡ old.renames → (r : Result ℕ AllocError) → IfOk r (λ n. n ≡ watch_of old c number) →
    OnOk r (new.instances ≡ at_client c (armed_on slot (Some (New number)) mask) old.instances) → IfOk r (ArmsAt old new c slot mask p o)
arms-at old new held c slot mask number p o at fewer handles renames (Ok n) given armed = record {
  held = held;
  arms = record {
    number = number;
    found = number-at held p o at.spot number at.stands at.holds.sets.here;
    instances = armed;
    objects = fewer;
    handles = handles;
    renames = renames;
  };
  holds = at;
  given = given;
}
arms-at old new held c slot mask number p o at fewer handles renames (Err f) given armed = tt

-- what is tracked, or not, is so by its spot
number-by : (objects : Objects) (p : Path) (o : Object) (spot : Spot) (r : Option ℕ) → IsSpotOf p o spot → IsNumberOf objects p o r →
    (spot ≢ Nowhere) × IsNumberAt objects spot r
number-by objects p object.Directory spot r is at = (λ no. let z = sym is ∙ no in cc, subst (λ x. IsNumberAt objects x r) (sym is) at)
number-by objects p object.Lower spot r is at = (λ no. let z = sym is ∙ no in cc, subst (λ x. IsNumberAt objects x r) (sym is) at)
number-by objects p (object.Upper key last) spot r is at = (λ no. let z = sym is ∙ no in cc, subst (λ x. IsNumberAt objects x r) (sym is) at)
number-by objects p object.Other spot r is at = absurd is

-- a number that is nobody's nobody watches
unheld-unwatched : (k : Notified) → AreKnown k → (n : ℕ) → spot_of k.objects n ≡ None → is_watched k.instances (On (New n)) ≡ false
unheld-unwatched k known n none = elim (cases_Bool (is_watched k.instances (On (New n)))) [
  | inl on ↦ absurd (false≢true (sym (ap is_some none) ∙ known.watched n on))
  | inr off ↦ off
]

-- an arm is refused by the number under which its object is held as it was judged before
judged-by : (k : Notified) → AreKnown k →
    ((spot : Spot) (m n : ℕ) → spot ≢ Nowhere → spot_of k.objects m ≡ Some spot →
    spot_of k.objects n ≡ Some spot → m ≡ n) →
    (held : Objects) (c slot n : ℕ) (p : Path) (o : Object) (r : Option Errno) →
    HoldsObject k.objects held p o n →
    IsArmJudged k c slot p o r → refusal_of k c slot (Some n) ≡ r
judged-by k known one held c slot n p o r at is = by is.number found.1 is.judged at.holds.was
  where
    found : (at.spot ≢ Nowhere) × IsNumberAt k.objects at.spot is.number
    found = number-by k.objects p o at.spot is.number at.stands is.found

    by : (number : Option ℕ) → IsNumberAt k.objects at.spot number →
        r ≡ refusal_of k c slot number →
        (spot_of k.objects n ≡ Some at.spot) ⊎
        (IsVacant k.objects at.spot × (spot_of k.objects n ≡ None)) →
        refusal_of k c slot (Some n) ≡ r
    by (Some m) there judged (inl same) = ap (λ x. refusal_of k c slot (Some x))
        (one at.spot n m found.0 same there) ∙ sym judged
    by (Some m) there judged (inr none) = absurd (none.0 m there)
    by None vacant judged (inl same) = absurd (vacant n same)
    by None vacant judged (inr none) = unwatched-arm k.instances c slot (New n)
        (unheld-unwatched k known n none.1) ∙ sym judged

-- so it is where what is kept is told otherwise
pub held-judged : (k old : Notified) → old ≡ k → AreKnown k →
    ((spot : Spot) (m n : ℕ) → spot ≢ Nowhere → spot_of k.objects m ≡ Some spot →
    spot_of k.objects n ≡ Some spot → m ≡ n) →
    (held : Objects) (c slot n : ℕ) (p : Path) (o : Object) (r : Option Errno) →
    HoldsObject old.objects held p o n →
    IsArmJudged k c slot p o r → refusal_of old c slot (Some n) ≡ r
held-judged k old same known one held c slot n p o r at is =
    ap (λ x. refusal_of x c slot (Some n)) same
    ∙ judged-by k known one held c slot n p o r
    (subst (λ (x : Notified). HoldsObject x.objects held p o n) same at) is

-- of three numbers the last two may change places
pub last-first : (a b c : ℕ) → a + b + c ≡ a + c + b
last-first a b c = omega arith
