-- What arm keeps.
use Rattle.std.proofs.Common.{◌≡◌, ℕ, ◌+◌, ◌<◌, ◌≤◌, Bool, true, false, cond, not, ◌&&◌, ◌||◌, Option, None, Some, List, [], ◌∷◌, ◌++◌, map, length, take, drop, refl, sym, ap, subst, ◌∙◌, arith, inl, inr, eqb-true, drop_of_length-le, bit_and, bit_or, nat_eq, nat_lt}
use Rattle.std.proofs.lemmas.Bool.{ltb-true, cases_Bool, false≢true}
use Rattle.std.proofs.lemmas.Cmp.{nat_eq_equiv}
use Rattle.std.proofs.lemmas.List.{length-map, length_push, append-nil, take_all}
use Rattle.std.proofs.lemmas.List.Elements.{All-weaker, All-map, All-push, All-head, All-tail, All-nil}
use Rattle.std.proofs.lemmas.Map.Steps.{length-le_from_distinct_below}
use Rattle.std.specs.Cmp.{IsEquivalence}
use Rattle.std.specs.List.{All, list_any}
use Rattle.std.specs.Prelude.{find, is_none, is_some, option_map}
use Rattle.ov_base.specs.declared.errno.Errno.{Errno}
use Rattle.ov_base.specs.declared.errno.Errno.TheVariants.{EINVAL, EBUSY, ENOSPC}
use Rattle.ov_base.specs.declared.node_id.NodeId.{NodeId}
use Rattle.ov_base.specs.declared.notice.Notice.{Notice}
use Rattle.plain_model.specs.Tree.{same_id}
use Rattle.plain_model.specs.Alike.{is_watched}
use Rattle.plain_model.specs.Watching.{On, Watch, Instance, EVENTS, MASK_ADD, ONESHOT, has_bit}
use Rattle.plain_model.specs.Machine.{armed_of, instance_of, watch_on, watches_of}
use Rattle.plain_model.specs.Refusals.{◌or_else◌, when, is_busy, WATCHES_MAX}
use Rattle.plain_model.proofs.Masks.{AsksEvents, rearmed-AsksEvents}
use Rattle.plain_model.proofs.Paths.{ids_tell}
use Rattle.watch_table.specs.Listening.{
  IsWatch,
  IsInstance,
  rearmed,
  slot_refusal,
  arm_refusal,
  new_refusal,
}
use Rattle.watch_table.proofs.Keys.{distinct_none, distinct_push, distinct_kept}

-- a test finds what passes it, and nothing else
pub found-any : {A : Type 0} (p : A → Bool) (xs : List A) → is_some (find p xs) ≡ list_any p xs
found-any p [] = refl
found-any p (x ∷ xs) = by (p x) (found-any p xs)
  where
    by : (b : Bool) → is_some (find p xs) ≡ list_any p xs → is_some (cond b (Some x) (find p xs)) ≡ (b || list_any p xs)
    by true h = refl
    by false h = h

-- a slot that is not refused has a hook
pub slot_below : (hooks slot mask : ℕ) → slot_refusal hooks slot mask ≡ None → slot < hooks
slot_below hooks slot mask h = ltb-true slot hooks (by (nat_lt slot hooks) _ h)
  where
    by : (b : Bool) (rest : Option Errno) → (when (not b) EINVAL or_else rest) ≡ None → b ≡ true
    by true rest g = refl
    by false rest g = cc

-- an object that is not refused is not busy
pub not_busy : (ws : List Watch) (armed slot : ℕ) (d : NodeId) → arm_refusal ws armed slot d ≡ None → is_busy ws slot (Some d) ≡ false
not_busy ws armed slot d h = by (is_busy ws slot (Some d)) _ h
  where
    by : (b : Bool) (rest : Option Errno) → (when b EBUSY or_else rest) ≡ None → b ≡ false
    by true rest g = cc
    by false rest g = refl

-- and a number is left for it, where it has no watch
pub number_left : (ws : List Watch) (armed slot : ℕ) (d : NodeId) → arm_refusal ws armed slot d ≡ None → watch_on ws (Some d) ≡ None →
    armed < WATCHES_MAX
number_left ws armed slot d h none = ltb-true armed WATCHES_MAX (by (is_busy ws slot (Some d)) (nat_lt armed WATCHES_MAX) (rw none at h))
  where
    by : (b c : Bool) → (when b EBUSY or_else when (true && not c) ENOSPC) ≡ None → c ≡ true
    by true c g = cc
    by false true g = refl
    by false false g = cc

-- where no watch is on an object, the object is busy where the slot has a watch
unwatched-busy : (ws : List Watch) (slot : ℕ) (d : NodeId) →
    list_any (λ w. same_id d w.node) ws ≡ false →
    is_busy ws slot (Some d) ≡ list_any (λ w. nat_eq w.slot slot) ws
unwatched-busy [] slot d off = refl
unwatched-busy (w ∷ ws) slot d off = by (same_id d w.node) (nat_eq w.slot slot) off
    (unwatched-busy ws slot d)
  where
    rest : Bool
    rest = list_any (λ v. nat_eq v.slot slot) ws

    by : (on same : Bool) → (on || list_any (λ v. same_id d v.node) ws) ≡ false →
        (list_any (λ v. same_id d v.node) ws ≡ false → is_busy ws slot (Some d) ≡ rest) →
        ((not on && same || on && not same) || is_busy ws slot (Some d)) ≡ (same || rest)
    by true same off more = absurd (false≢true (sym off))
    by false true off more = refl
    by false false off more = more off

-- so the object is refused as one that nobody watches
pub unwatched-refusal : (ws : List Watch) (armed slot : ℕ) (d : NodeId) →
    list_any (λ w. same_id d w.node) ws ≡ false →
    arm_refusal ws armed slot d ≡ new_refusal ws armed slot
unwatched-refusal ws armed slot d off =
    ap (λ b. when b EBUSY or_else when
    (is_none (watch_on ws (Some d)) && not (nat_lt armed WATCHES_MAX)) ENOSPC)
    (unwatched-busy ws slot d off)
    ∙ ap (λ b. when (list_any (λ w. nat_eq w.slot slot) ws) EBUSY or_else when
    (b && not (nat_lt armed WATCHES_MAX)) ENOSPC)
    (none-there (watch_on ws (Some d)) (found-any (λ w. same_id d w.node) ws ∙ off))
  where
    none-there : (o : Option Watch) → is_some o ≡ false → is_none o ≡ true
    none-there None h = refl
    none-there (Some w) h = absurd (false≢true (sym h))

-- an object that no client watches is refused so to each
pub unwatched-arm : (es : List Instance) (c slot : ℕ) (d : NodeId) → is_watched es (On d) ≡ false →
    arm_refusal (watches_of (instance_of es c)) (armed_of (instance_of es c)) slot d
    ≡ new_refusal (watches_of (instance_of es c)) (armed_of (instance_of es c)) slot
unwatched-arm es c slot d off = unwatched-refusal (watches_of (instance_of es c))
    (armed_of (instance_of es c)) slot d (at es off)
  where
    at : (es : List Instance) → is_watched es (On d) ≡ false →
        list_any (λ w. same_id d w.node) (watches_of (instance_of es c)) ≡ false
    at [] none = refl
    at (e ∷ es) none = by (nat_eq e.client c) (list_any (λ w. same_id d w.node) e.watches) refl none
        (at es)
      where
        by : (b on : Bool) → list_any (λ w. same_id d w.node) e.watches ≡ on →
            (on || is_watched es (On d)) ≡ false →
            (is_watched es (On d) ≡ false →
            list_any (λ w. same_id d w.node) (watches_of (instance_of es c)) ≡ false) →
            list_any (λ w. same_id d w.node) (watches_of (cond b (Some e) (instance_of es c))) ≡
            false
        by b true is none rest = absurd (false≢true (sym none))
        by true false is none rest = is
        by false false is none rest = rest none

-- the number of the watch on an object is one that was given
pub number_on-given : (hooks armed : ℕ) (d : NodeId) (ws : List Watch) → All (IsWatch hooks armed) ws → (n : ℕ) →
    option_map (λ w. w.number) (watch_on ws (Some d)) ≡ Some n → n ≤ armed
number_on-given hooks armed d [] h n is = absurd (let no : None ≡ Some n = is in cc)
number_on-given hooks armed d (w ∷ ws) h n is =
    by (same_id d w.node) (number_on-given hooks armed d ws (All-tail (IsWatch hooks armed) w ws h) n) is
  where
    by : (b : Bool) → (option_map (λ v. v.number) (find (λ v. same_id d v.node) ws) ≡ Some n → n ≤ armed) →
        option_map (λ v. v.number) (cond b (Some w) (find (λ v. same_id d v.node) ws)) ≡ Some n → n ≤ armed
    by true rest at =
        let same : w.number ≡ n = cc in
        subst (λ m. m ≤ armed) same (All-head (IsWatch hooks armed) w ws h).given
    by false rest at = rest at

-- a watch keeps its slot, its number and its object
pub rearmed-keeps : {K : Type 0} (key : Watch → K) (d : NodeId) (mask : ℕ) (w : Watch) →
    ((m : ℕ) (o : Bool) → key (record w { mask = m; once = o }) ≡ key w) → key (rearmed d mask w) ≡ key w
rearmed-keeps {K} key d mask w same = by (same_id d w.node) (has_bit mask MASK_ADD)
  where
    by : (b c : Bool) → key (cond b (cond c (record w { mask = bit_or w.mask (bit_and mask EVENTS); once = w.once || has_bit mask ONESHOT })
        (record w { mask = bit_and mask EVENTS; once = has_bit mask ONESHOT })) w) ≡ key w
    by true true = same (bit_or w.mask (bit_and mask EVENTS)) (w.once || has_bit mask ONESHOT)
    by true false = same (bit_and mask EVENTS) (has_bit mask ONESHOT)
    by false c = refl

rearmed-IsWatch : (hooks armed : ℕ) (d : NodeId) (mask : ℕ) (w : Watch) → IsWatch hooks armed w → IsWatch hooks armed (rearmed d mask w)
rearmed-IsWatch hooks armed d mask w h =
    let slot = rearmed-keeps (λ v. v.slot) d mask w (λ m o. refl) in
    let number = rearmed-keeps (λ v. v.number) d mask w (λ m o. refl) in
    record {
      slot = rw slot h.slot;
      positive = rw number h.positive;
      given = rw number h.given;
      events = rearmed-AsksEvents (same_id d w.node) mask w h.events;
    }

-- an instance where a watch is armed again
pub rearmed-IsInstance : (e : Instance) (d : NodeId) (mask : ℕ) → IsInstance e →
    IsInstance (record e { watches = map (rearmed d mask) e.watches })
rearmed-IsInstance e d mask h = record {
  hooks = h.hooks;
  watches =
      let P = IsWatch (length e.tags) e.armed in
      All-map P (rearmed d mask) e.watches (All-weaker P (λ w. P (rearmed d mask w))
      (rearmed-IsWatch (length e.tags) e.armed d mask) e.watches h.watches);
  few = h.few;
  numbers = distinct_kept nat_eq (λ w. w.number) (rearmed d mask) e.watches
      (λ w. rearmed-keeps (λ v. v.number) d mask w (λ m o. refl)) h.numbers;
  slots = distinct_kept nat_eq (λ w. w.slot) (rearmed d mask) e.watches (λ w. rearmed-keeps (λ v. v.slot) d mask w (λ m o. refl)) h.slots;
  objects = distinct_kept same_id (λ w. w.node) (rearmed d mask) e.watches
      (λ w. rearmed-keeps (λ v. v.node) d mask w (λ m o. refl)) h.objects;
}

-- a slot through which another object is not armed, where this one has no watch
slot-free : (ws : List Watch) (slot : ℕ) (d : NodeId) → is_busy ws slot (Some d) ≡ false → list_any (λ w. same_id d w.node) ws ≡ false →
    list_any (nat_eq slot) (map (λ w. w.slot) ws) ≡ false
slot-free [] slot d busy none = refl
slot-free (w ∷ ws) slot d busy none = by (same_id d w.node) (nat_eq w.slot slot) (nat_eq slot w.slot)
    (nat_eq_equiv.symm w.slot slot) busy none (slot-free ws slot d)
  where
    rest : Type 0
    rest = is_busy ws slot (Some d) ≡ false → list_any (λ v. same_id d v.node) ws ≡ false →
        list_any (nat_eq slot) (map (λ v. v.slot) ws) ≡ false

    by : (a b c : Bool) → b ≡ c → ((not a && b || a && not b) || is_busy ws slot (Some d)) ≡ false →
        (a || list_any (λ v. same_id d v.node) ws) ≡ false → rest → (c || list_any (nat_eq slot) (map (λ v. v.slot) ws)) ≡ false
    by true b c s f g r = cc
    by false true c s f g r = cc
    by false false true s f g r = cc
    by false false false s f g r = r f g

-- a number above all that were given
number-new : (hooks armed : ℕ) (ws : List Watch) → All (IsWatch hooks armed) ws →
    list_any (nat_eq (armed + 1)) (map (λ w. w.number) ws) ≡ false
number-new hooks armed [] h = refl
number-new hooks armed (w ∷ ws) h = elim (cases_Bool (nat_eq (armed + 1) w.number)) [
  | inl t ↦ let given = (All-head (IsWatch hooks armed) w ws h).given in let same = eqb-true (armed + 1) w.number t in absurd (omega arith)
  | inr f ↦ ap (λ b. b || list_any (nat_eq (armed + 1)) (map (λ v. v.number) ws)) f
      ∙ number-new hooks armed ws (All-tail (IsWatch hooks armed) w ws h)
]

pub any-map : {A B : Type 0} (p : B → Bool) (f : A → B) (xs : List A) → list_any p (map f xs) ≡ list_any (λ x. p (f x)) xs
any-map p f [] = refl
any-map p f (x ∷ xs) = ap (λ b. p (f x) || b) (any-map p f xs)

same_id-symm : (d e : NodeId) → same_id d e ≡ same_id e d
same_id-symm d e = elim (cases_Bool (same_id d e)) [
  | inl t ↦ t ∙ sym ((ids_tell e d).1 (sym ((ids_tell d e).0 t)))
  | inr f ↦ elim (cases_Bool (same_id e d)) [
    | inl t ↦ absurd (false≢true (sym f ∙ (ids_tell d e).1 (sym ((ids_tell e d).0 t))))
    | inr g ↦ f ∙ sym g
  ]
]

same_id_equiv : IsEquivalence same_id
same_id_equiv = record {
  refl = λ d. (ids_tell d d).1 refl;
  symm = same_id-symm;
  congr = λ d e f t. ap (λ x. same_id x f) ((ids_tell d e).0 t);
}

-- an instance with a watch more: of a slot that no watch has, on an object that no watch is on
pub more-IsInstance : (e : Instance) (w : Watch) → IsInstance e → w.slot < length e.tags → w.number ≡ e.armed + 1 → e.armed < WATCHES_MAX →
    is_busy e.watches w.slot (Some w.node) ≡ false → watch_on e.watches (Some w.node) ≡ None → AsksEvents w →
    IsInstance (record e { armed = e.armed + 1; watches = e.watches ++ w ∷ [] })
more-IsInstance e w h slot number left free none events = record {
  hooks = h.hooks;
  watches =
      All-push (IsWatch (length e.tags) (e.armed + 1)) e.watches w
      (All-weaker (IsWatch (length e.tags) e.armed) (IsWatch (length e.tags) (e.armed + 1))
      (λ v k. let g = k.given in record { slot = k.slot; positive = k.positive; given = omega arith; events = k.events }) e.watches h.watches)
      (record { slot = slot; positive = omega arith; given = omega arith; events = events });
  few = omega arith;
  numbers = distinct_push nat_eq (λ v. v.number) nat_eq_equiv e.watches w h.numbers
      (rw number (number-new (length e.tags) e.armed e.watches h.watches));
  slots = distinct_push nat_eq (λ v. v.slot) nat_eq_equiv e.watches w h.slots (slot-free e.watches w.slot w.node free absent);
  objects = distinct_push same_id (λ v. v.node) same_id_equiv e.watches w h.objects
      (any-map (same_id w.node) (λ v. v.node) e.watches ∙ absent);
}
  where
    absent : list_any (λ v. same_id w.node v.node) e.watches ≡ false
    absent = sym (found-any (λ v. same_id w.node v.node) e.watches) ∙ ap is_some none

-- each slot that a watch has is below the hooks
slots-below : (hooks armed : ℕ) (ws : List Watch) → All (IsWatch hooks armed) ws → (q : ℕ) →
    list_any (nat_eq q) (map (λ w. w.slot) ws) ≡ true → q < hooks
slots-below hooks armed [] h q is = absurd (false≢true is)
slots-below hooks armed (w ∷ ws) h q is = elim (cases_Bool (nat_eq q w.slot)) [
  | inl t ↦ let below = (All-head (IsWatch hooks armed) w ws h).slot in let same = eqb-true q w.slot t in omega arith
  | inr f ↦ slots-below hooks armed ws (All-tail (IsWatch hooks armed) w ws h) q
      (sym (ap (λ b. b || list_any (nat_eq q) (map (λ v. v.slot) ws)) f) ∙ is)
]

-- the watches of an instance are at most as many as its hooks
pub few-watches : (e : Instance) → IsInstance e → length e.watches ≤ length e.tags
few-watches e h =
    let few = length-le_from_distinct_below (map (λ w. w.slot) e.watches) (length e.tags) h.slots
    (slots-below (length e.tags) e.armed e.watches h.watches) in
    let same = length-map e.watches (λ w. w.slot) in
    omega arith

-- where a watch is new, its place in a row of 16 is free
pub room-left : (e : Instance) (w : Watch) → IsInstance (record e { armed = e.armed + 1; watches = e.watches ++ w ∷ [] }) →
    length e.watches < 16
room-left e w h =
    let few = few-watches (record e { armed = e.armed + 1; watches = e.watches ++ w ∷ [] }) h in
    let hooks = h.hooks in
    let one = length_push e.watches w in
    omega arith

-- an instance as it begins
pub new-IsInstance : (c : ℕ) (tags : List ℕ) (ws : List Watch) (q : List Notice) → length tags ≤ 16 → ws ≡ [] →
    IsInstance (record { client = c; tags = tags; watches = ws; armed = 0; queue = q })
new-IsInstance c tags ws q few none = subst (λ vs. IsInstance (record { client = c; tags = tags; watches = vs; armed = 0; queue = q }))
    (sym none) (record {
      hooks = few;
      watches = All-nil (IsWatch (length tags) 0);
      few = omega arith;
      numbers = distinct_none nat_eq (λ (w : Watch). w.number);
      slots = distinct_none nat_eq (λ (w : Watch). w.slot);
      objects = distinct_none same_id (λ (w : Watch). w.node);
    })

-- a row that was written over whole
pub written-over : {A : Type 0} (n : ℕ) (xs ys : List A) → length ys ≡ n → length xs ≡ n → take n (xs ++ drop (length xs) ys) ≡ xs
written-over n xs ys old new =
    let none : drop (length xs) ys ≡ [] = drop_of_length-le ys (omega arith) in
    ap (λ zs. take n (xs ++ zs)) none ∙ ap (take n) (append-nil xs) ∙ take_all n xs (omega arith)

-- what a map of an option gives nothing of
pub none-mapped : {A B : Type 0} (f : A → B) (o : Option A) → option_map f o ≡ None → o ≡ None
none-mapped f None h = refl
none-mapped f (Some a) h = cc

-- an instance whose arming of a new watch is not refused may have it
pub arms-IsInstance : (e : Instance) (w : Watch) (mask : ℕ) → IsInstance e → slot_refusal (length e.tags) w.slot mask ≡ None →
    arm_refusal e.watches e.armed w.slot w.node ≡ None → w.number ≡ e.armed + 1 →
    option_map (λ v. v.number) (watch_on e.watches (Some w.node)) ≡ None → AsksEvents w →
    IsInstance (record e { armed = e.armed + 1; watches = e.watches ++ w ∷ [] })
arms-IsInstance e w mask h slot allowed number none events =
    let new : watch_on e.watches (Some w.node) ≡ None = none-mapped (λ v. v.number) (watch_on e.watches (Some w.node)) none in
    more-IsInstance e w h (slot_below (length e.tags) w.slot mask slot) number (number_left e.watches e.armed w.slot w.node allowed new)
    (not_busy e.watches e.armed w.slot w.node allowed) new events
