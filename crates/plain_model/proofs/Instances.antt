-- What the instances of every run keep.
use Rattle.std.proofs.Common.{◌≡◌, ℕ, zero, suc, ◌+◌, ◌<◌, ◌≤◌, Bool, true, false, cond, not, ◌&&◌, ◌||◌, List, [], ◌∷◌, ◌++◌, Option, None, Some, refl, sym, ap, ap₂, subst, ◌∙◌, length, map, find, drop, get_or, is_some, is_none, nat_eq, nat_lt, bit_and, bit_or, arith}
use Rattle.std.specs.List.{All, AllPairs, AllByRecursion, IsDistinct, list_any}
use Rattle.std.proofs.lemmas.Bool.{false≢true, not-false, ltb-true, eq-eqb, eqb-true, ne_eqb, or_parts}
use Rattle.std.proofs.lemmas.List.{map-append, length-drop}
use Rattle.std.proofs.lemmas.List.Elements.{All-nil, All-cons, All-head, All-tail, All-map, All-weaker, All-filter, All-push, recursion_from_All}
use Rattle.std.proofs.lemmas.List.Kept.{AllPairs-cons, AllPairs-filter}
use Rattle.std.proofs.lemmas.List.Quantifiers.{all_pairs_push}
use Rattle.std.proofs.lemmas.Map.Keys.{IsDistinct-head, IsDistinct-tail}
use Rattle.ov_base.specs.Calls.{Call}
use Rattle.ov_base.specs.declared.call.CallOf.TheVariants.{Close, Arm, TakeNotices}
use Rattle.ov_base.specs.declared.errno.Errno.{Errno}
use Rattle.ov_base.specs.declared.errno.Errno.TheVariants.{ENOENT, ENOTDIR, EBUSY, EINVAL, ELOOP, ENOSPC}
use Rattle.ov_base.specs.declared.node_id.NodeId.{NodeId}
use Rattle.ov_base.specs.declared.notice.Event.{Event}
use Rattle.ov_base.specs.declared.notice.Notice.{Notice}
use Rattle.ov_base.specs.declared.reply.Reply.{Reply}
use Rattle.plain_model.specs.Layers.{Path}
use Rattle.plain_model.specs.Tree.{same_id, Node, Tree, node_at, node_of, is_folder}
use Rattle.plain_model.specs.Watching.{EVENTS, MASK_ADD, ONESHOT, ONLYDIR, has_bit, Watch, Instance, Subject, Rule, silent, ends, passed, all_asked, all_passed, IsQueue, put_answer, Puts, Hears, AllHear}
use Rattle.plain_model.specs.Machine.{Handle, MountOptions, State, Look, Found, Absent, Fails, look, found, is_link, opening, handles_of, instance_of, hooks_of, watches_of, armed_of, watch_on}
use Rattle.plain_model.specs.Refusals.{◌or_else◌, when, there, bad_mask, is_busy, WATCHES_MAX, refusal}
use Rattle.plain_model.specs.Changes.{re_mask, armed_on, at_client, instances_after, after}
use Rattle.plain_model.specs.Subjects.{subjects}
use Rattle.plain_model.specs.Runs.{HOOKS_MAX, Answered, Step, Closes, joined, without_instance, Deed, Attached, Called, Detached, Entry, Does, Run}
use Rattle.plain_model.specs.Instances.{hearers_of, IsWatch, AreApart, IsInstance, AreInstances, LawOfInstances, LawOfInstancesOfRuns}
use Rattle.plain_model.proofs.Paths.{ids_tell}
use Rattle.plain_model.proofs.Held.{flipped}
use Rattle.plain_model.proofs.Masks.{AsksEvents, and-within, rearmed-AsksEvents}
use Rattle.plain_model.proofs.Values.{put-IsQueue}
use Rattle.plain_model.proofs.Looking.{or-first, or-second, when-not, look-found}
use Rattle.plain_model.proofs.Kept.{by-path}
use Rattle.plain_model.proofs.Clients.{call-hearers, heard-hearers, filter-map, but-apart, last-apart}

-- pairs of a list that is changed element by element
pairs-map : {X : Type 0} (R : X → X → Type 0) (f : X → X) (xs : List X) → ((x y : X) → R x y → R (f x) (f y)) → AllPairs R xs →
    AllPairs R (map f xs)
pairs-map R f [] keeps h = λ i j d b below. absurd (omega arith)
pairs-map R f (x ∷ xs) keeps h =
    AllPairs-cons R (f x) (map f xs)
    (All-map (R (f x)) f xs (All-weaker (R x) (λ y. R (f x) (f y)) (keeps x) xs (λ k d b. h 0 (suc k) d (omega arith) (omega arith))))
    (pairs-map R f xs keeps (λ i j d b below. h (suc i) (suc j) d (omega arith) (omega arith)))

-- elements of which none passes a test
none-passes : {X : Type 0} (p : X → Bool) (xs : List X) → list_any p xs ≡ false → All (λ x. p x ≡ false) xs
none-passes p [] h = All-nil (λ x. p x ≡ false)
none-passes p (x ∷ xs) h = let b = or_parts (p x) (list_any p xs) h in All-cons (λ x. p x ≡ false) x xs b.0 (none-passes p xs b.1)

-- nor is one found
none-found : {X : Type 0} (p : X → Bool) (xs : List X) → find p xs ≡ None → All (λ x. p x ≡ false) xs
none-found p [] h = All-nil (λ x. p x ≡ false)
none-found p (x ∷ xs) h = by (p x) refl h (none-found p xs)
  where
    by : (b : Bool) → p x ≡ b → cond b (Some x) (find p xs) ≡ None → (find p xs ≡ None → All (λ x. p x ≡ false) xs) →
        All (λ x. p x ≡ false) (x ∷ xs)
    by true e h rest = cc
    by false e h rest = All-cons (λ x. p x ≡ false) x xs e (rest h)

-- a watch that is armed again keeps its number, its slot and its node
record IsRearmed (f : Watch → Watch) (w : Watch) : Type 0 where
  number : (f w).number ≡ w.number
  slot : (f w).slot ≡ w.slot
  node : (f w).node ≡ w.node

-- a watch, armed again where it is on the node
abbrev rearmed : NodeId → ℕ → Watch → Watch
rearmed d mask w = cond (same_id d w.node) (re_mask mask w) w

-- so it is with each watch as a node is armed again
rearmed-is : (d : NodeId) (mask : ℕ) (w : Watch) → IsRearmed (rearmed d mask) w
rearmed-is d mask w =
    let on = same_id d w.node in
    let adds = has_bit mask MASK_ADD in
    record { number = number on adds; slot = slot on adds; node = node on adds }
  where
    both : Bool → Bool → Watch
    both b c =
        cond b (cond c (record w { mask = bit_or w.mask (bit_and mask EVENTS); once = w.once || has_bit mask ONESHOT })
        (record w { mask = bit_and mask EVENTS; once = has_bit mask ONESHOT })) w

    number : (b c : Bool) → (both b c).number ≡ w.number
    number true true = refl
    number true false = refl
    number false c = refl

    slot : (b c : Bool) → (both b c).slot ≡ w.slot
    slot true true = refl
    slot true false = refl
    slot false c = refl

    node : (b c : Bool) → (both b c).node ≡ w.node
    node true true = refl
    node true false = refl
    node false c = refl

-- an instance one of whose watches is armed again
again-is : (d : NodeId) (mask : ℕ) (e : Instance) → IsInstance e → IsInstance (record e { watches = map (rearmed d mask) e.watches })
again-is d mask e h = record {
  hooks = h.hooks;
  watches =
      All-map (IsWatch (length e.tags) e.armed) (rearmed d mask) e.watches
      (All-weaker (IsWatch (length e.tags) e.armed) (λ w. IsWatch (length e.tags) e.armed (rearmed d mask w)) watch e.watches h.watches);
  apart = pairs-map AreApart (rearmed d mask) e.watches apart h.apart;
  few = h.few;
  unread = h.unread;
}
  where
    watch : (w : Watch) → IsWatch (length e.tags) e.armed w → IsWatch (length e.tags) e.armed (rearmed d mask w)
    watch w k =
        let same = rearmed-is d mask w in
        record {
          slot = subst (λ n. n < length e.tags) (sym same.slot) k.slot;
          positive = subst (λ n. 0 < n) (sym same.number) k.positive;
          given = subst (λ n. n ≤ e.armed) (sym same.number) k.given;
          events = rearmed-AsksEvents (same_id d w.node) mask w k.events;
        }

    apart : (v w : Watch) → AreApart v w → AreApart (rearmed d mask v) (rearmed d mask w)
    apart v w k =
        let first = rearmed-is d mask v in
        let second = rearmed-is d mask w in
        record {
          rising = subst (λ n. n < (rearmed d mask w).number) (sym first.number) (subst (λ n. v.number < n) (sym second.number) k.rising);
          slots = λ same. k.slots (sym first.slot ∙ same ∙ second.slot);
          nodes = λ same. k.nodes (sym first.node ∙ same ∙ second.node);
        }

-- what a call found that may arm a slot on a node
record MayArm (e : Instance) (slot : ℕ) (d : NodeId) : Type 0 where
  hooked : nat_lt slot (length e.tags) ≡ true
  idle : is_busy e.watches slot (Some d) ≡ false
  room : is_none (watch_on e.watches (Some d)) && not (nat_lt e.armed WATCHES_MAX) ≡ false

-- a watch of another slot on the node, or of the slot on another node
abbrev is_other : ℕ → NodeId → Watch → Bool
is_other slot d v = not (same_id d v.node) && nat_eq v.slot slot || same_id d v.node && not (nat_eq v.slot slot)

-- an instance with one watch more
more-is : (e : Instance) (slot : ℕ) (d : NodeId) (w : Watch) → MayArm e slot d → watch_on e.watches (Some d) ≡ None →
    w.number ≡ e.armed + 1 → w.slot ≡ slot → w.node ≡ d → AsksEvents w → IsInstance e →
    IsInstance (record e { armed = e.armed + 1; watches = e.watches ++ w ∷ [] })
more-is e slot d w may none number at on events h = record {
  hooks = h.hooks;
  watches =
      All-push (IsWatch (length e.tags) (e.armed + 1)) e.watches w
      (All-weaker (IsWatch (length e.tags) e.armed) (IsWatch (length e.tags) (e.armed + 1)) older e.watches h.watches) newest;
  apart = all_pairs_push AreApart e.watches w h.apart (λ k v b. apart (get_or e.watches k v) (h.watches k v b) (free k v b) (idle k v b));
  few = room;
  unread = h.unread;
}
  where
    free : All (λ v. same_id d v.node ≡ false) e.watches
    free = none-found (λ v. same_id d v.node) e.watches none

    idle : All (λ v. is_other slot d v ≡ false) e.watches
    idle = none-passes (is_other slot d) e.watches may.idle

    room : e.armed + 1 ≤ WATCHES_MAX
    room =
        let fewer = ap (λ o. is_none o && not (nat_lt e.armed WATCHES_MAX)) (sym none) ∙ may.room in
        let below = ltb-true e.armed WATCHES_MAX (not-false (nat_lt e.armed WATCHES_MAX) fewer) in
        omega arith

    older : (v : Watch) → IsWatch (length e.tags) e.armed v → IsWatch (length e.tags) (e.armed + 1) v
    older v k = let given = k.given in record { slot = k.slot; positive = k.positive; given = omega arith; events = k.events }

    newest : IsWatch (length e.tags) (e.armed + 1) w
    newest =
        let below = ltb-true slot (length e.tags) may.hooked in
        record { slot = subst (λ n. n < length e.tags) (sym at) below; positive = omega arith; given = omega arith; events = events }

    apart : (v : Watch) → IsWatch (length e.tags) e.armed v → same_id d v.node ≡ false → is_other slot d v ≡ false → AreApart v w
    apart v k other free = record {
      rising = let given = k.given in omega arith;
      slots = λ same. false≢true (sym free ∙ ap₂ (λ a b. not a && b || a && not b) other (eq-eqb v.slot slot (same ∙ at)));
      nodes = λ same. false≢true (sym other ∙ (ids_tell d v.node).1 (sym (same ∙ on)));
    }

-- an instance that is armed on a node
armed-is : (e : Instance) (slot : ℕ) (d : NodeId) (mask : ℕ) → MayArm e slot d → IsInstance e → IsInstance (armed_on slot (Some d) mask e)
armed-is e slot d mask may h = by (watch_on e.watches (Some d)) refl
  where
    new : Watch
    new = record { number = e.armed + 1; slot = slot; node = d; mask = bit_and mask EVENTS; once = has_bit mask ONESHOT }

    by : (o : Option Watch) → watch_on e.watches (Some d) ≡ o →
        IsInstance (cond (is_some o)
        (record e { watches = map (rearmed d mask) e.watches })
        (record e { armed = e.armed + 1; watches = e.watches ++ new ∷ [] }))
    by (Some w) o = again-is d mask e h
    by None o = more-is e slot d new may o refl refl refl (and-within mask EVENTS) h

-- a change of one client's instance, which is the one that is found by its number
at-each : (c : ℕ) (f : Instance → Instance) (es : List Instance) → IsDistinct nat_eq (hearers_of es) →
    ((e : Instance) → instance_of es c ≡ Some e → IsInstance e → IsInstance (f e)) → All IsInstance es → All IsInstance (at_client c f es)
at-each c f [] apart keeps h = All-nil IsInstance
at-each c f (e ∷ es) apart keeps h =
    by (nat_eq e.client c) refl keeps (at-each c f es (IsDistinct-tail nat_eq e.client (hearers_of es) apart))
  where
    absent : nat_eq e.client c ≡ true → AllByRecursion (λ y. nat_eq c y ≡ false) (hearers_of es)
    absent same =
        subst (λ n. AllByRecursion (λ y. nat_eq n y ≡ false) (hearers_of es)) (eqb-true e.client c same)
        (IsDistinct-head nat_eq e.client (hearers_of es) apart)

    others : (c : ℕ) (es : List Instance) → AllByRecursion (λ y. nat_eq c y ≡ false) (hearers_of es) → at_client c f es ≡ es
    others c [] a = refl
    others c (e ∷ es) a = λ i. cond (flipped c e.client a.0 i) (f e) e ∷ others c es a.1 i

    by : (b : Bool) → nat_eq e.client c ≡ b
        → ((x : Instance) → cond b (Some e) (instance_of es c) ≡ Some x → IsInstance x → IsInstance (f x))
        → (((x : Instance) → instance_of es c ≡ Some x → IsInstance x → IsInstance (f x)) →
        All IsInstance es → All IsInstance (at_client c f es))
        → All IsInstance (cond b (f e) e ∷ at_client c f es)
    by true same keeps rest =
        All-cons IsInstance (f e) (at_client c f es) (keeps e refl (All-head IsInstance e es h))
        (subst (All IsInstance) (sym (others c es (absent same))) (All-tail IsInstance e es h))
    by false other keeps rest =
        All-cons IsInstance e (at_client c f es) (All-head IsInstance e es h) (rest keeps (All-tail IsInstance e es h))

-- a call that arms a slot and is not refused
arm-keeps : (s : State) (c slot : ℕ) (p : Path) (mask : ℕ) → refusal s c (Arm slot p mask) ≡ None → (e : Instance) →
    instance_of s.instances c ≡ Some e → IsInstance e → IsInstance (armed_on slot (node_at s.tree p) mask e)
arm-keeps s c slot p mask r e at h =
    by (look s.tree p) refl (subst (λ o. IsNotRefused (look s.tree p) o) at (by-path s c (Arm slot p mask) r))
  where
    x : Option Node
    x = node_of s.tree (node_at s.tree p)

    IsNotRefused : Look → Option Instance → Type 0
    IsNotRefused l o =
        when (not (nat_lt slot (hooks_of o))) EINVAL
        or_else when (bad_mask mask) EINVAL
        or_else there l
        or_else when (is_link x) ELOOP
        or_else when (has_bit mask ONLYDIR && not (is_folder x)) ENOTDIR
        or_else when (is_busy (watches_of o) slot (found l)) EBUSY
        or_else when (is_none (watch_on (watches_of o) (found l)) && not (nat_lt (armed_of o) WATCHES_MAX)) ENOSPC ≡ None

    hook : not (nat_lt slot (length e.tags)) ≡ false
    hook =
        when-not (not (nat_lt slot (length e.tags))) EINVAL
        (or-first (when (not (nat_lt slot (length e.tags))) EINVAL) _
        (subst (λ o. IsNotRefused (look s.tree p) o) at (by-path s c (Arm slot p mask) r)))

    by : (l : Look) → look s.tree p ≡ l → IsNotRefused l (Some e) → IsInstance (armed_on slot (node_at s.tree p) mask e)
    by l same n =
        let rest = or-second (when (bad_mask mask) EINVAL) _ (or-second (when (not (nat_lt slot (length e.tags))) EINVAL) _ n) in
        last l same (or-first (there l) _ rest) (or-second (when (has_bit mask ONLYDIR && not (is_folder x)) ENOTDIR) _
        (or-second (when (is_link x) ELOOP) _ (or-second (there l) _ rest)))
      where
        last : (l : Look) → look s.tree p ≡ l → there l ≡ None
            → when (is_busy e.watches slot (found l)) EBUSY
            or_else when (is_none (watch_on e.watches (found l)) && not (nat_lt e.armed WATCHES_MAX)) ENOSPC ≡ None
            → IsInstance (armed_on slot (node_at s.tree p) mask e)
        last (Fails x) same t n = let z : Some x ≡ None = t in cc
        last (Absent d) same t n = let z : Some ENOENT ≡ None = t in cc
        last (Found d) same t n =
            subst (λ o. IsInstance (armed_on slot o mask e)) (sym (look-found s.tree p d same))
            (armed-is e slot d mask (record {
              hooked = not-false (nat_lt slot (length e.tags)) hook;
              idle = when-not (is_busy e.watches slot (Some d)) EBUSY (or-first (when (is_busy e.watches slot (Some d)) EBUSY) _ n);
              room =
                  when-not (is_none (watch_on e.watches (Some d)) && not (nat_lt e.armed WATCHES_MAX)) ENOSPC
                  (or-second (when (is_busy e.watches slot (Some d)) EBUSY) _ n);
            }) h)

-- a queue some of whose first notices were read
dropped-queue : (n : ℕ) (q : List Notice) → IsQueue q → IsQueue (drop n q)
dropped-queue zero q h = h
dropped-queue (suc n) q h =
    let short = h.short in
    let fewer = length-drop (suc n) q in
    record { short = omega arith; full = λ more. absurd (omega arith) }

-- the instances after a call, before its events are heard
after-each : (s : State) (c : ℕ) (call : Call) → refusal s c call ≡ None → AreInstances s → All IsInstance (instances_after s c call)
after-each s c (Arm slot p mask) r h =
    at-each c (armed_on slot (node_at s.tree p) mask) s.instances h.apart (arm-keeps s c slot p mask r) h.each
after-each s c (TakeNotices n) r h =
    at-each c (λ e. record e { queue = drop n e.queue }) s.instances h.apart
    (λ e at k. record { hooks = k.hooks; watches = k.watches; apart = k.apart; few = k.few; unread = dropped-queue n e.queue k.unread })
    h.each
after-each s c _ r h = h.each

-- a queue after answers
answers-queue : (shows : Rule) (asked : List (ℕ × Event)) (old new : List Notice) → Puts shows asked old new → IsQueue old → IsQueue new
answers-queue shows [] old new p h = subst IsQueue (sym p) h
answers-queue shows (a ∷ asked) old new p h = answers-queue shows asked (put_answer old p.0) new p.2 (by p.0)
  where
    by : (o : Option Notice) → IsQueue (put_answer old o)
    by None = h
    by (Some n) = put-IsQueue old n h

-- an instance after subjects, but for its queue
passed-is : (ss : List Subject) (e : Instance) → IsInstance e → IsInstance (all_passed e ss)
passed-is [] e h = h
passed-is (s ∷ ss) e h = passed-is ss (passed e s) (record {
  hooks = h.hooks;
  watches = All-filter (λ w. not (ends e.client s w)) (IsWatch (length e.tags) e.armed) e.watches h.watches;
  apart = AllPairs-filter AreApart (λ w. not (ends e.client s w)) e.watches h.apart;
  few = h.few;
  unread = h.unread;
})

-- an instance that hears subjects
heard-is : (shows : Rule) (ss : List Subject) (old new : Instance) → Hears shows ss old new → IsInstance old → IsInstance new
heard-is shows ss old new h k =
    let passed = passed-is ss old k in
    subst IsInstance (sym h.watches) (record {
      hooks = passed.hooks;
      watches = passed.watches;
      apart = passed.apart;
      few = passed.few;
      unread = answers-queue shows (all_asked old ss) old.queue new.queue h.queue k.unread;
    })

-- each instance, as all hear subjects
heard-each : (shows : Rule) (ss : List Subject) (es fs : List Instance) → AllHear shows ss es fs → All IsInstance es → All IsInstance fs
heard-each shows ss [] [] h k = k
heard-each shows ss [] (f ∷ fs) h k = absurd h
heard-each shows ss (e ∷ es) [] h k = absurd h
heard-each shows ss (e ∷ es) (f ∷ fs) h k =
    All-cons IsInstance f fs (heard-is shows ss e f h.0 (All-head IsInstance e es k))
    (heard-each shows ss es fs h.1 (All-tail IsInstance e es k))

-- a call keeps what instances keep
pub step-instances : (shows : Rule) (old : State) (c : ℕ) (call : Call) (reply : Reply) (new : State) → Step shows old c call reply new →
    AreInstances old → AreInstances new
step-instances shows old c call reply new step h = by (refusal old c call) refl step
  where
    by : (o : Option Errno) → refusal old c call ≡ o → Answered o shows old c call reply new → AreInstances new
    by (Some e) r a = subst AreInstances (sym a.1) h
    by None r a =
        let same = heard-hearers shows (subjects old c call) (after old c call).instances new.instances a.heard ∙ call-hearers old c call in
        subst AreInstances (sym a.state) (record {
          apart = subst (IsDistinct nat_eq) (sym same) h.apart;
          before = subst (All (λ c. c < old.arrived)) (sym same) h.before;
          each = heard-each shows (subjects old c call) (after old c call).instances new.instances a.heard (after-each old c call r h);
        })

-- so do the calls that close a client's descriptors
closes-instances : (shows : Rule) (c i : ℕ) (hs : List (Option Handle)) (old new : State) → Closes shows old c i hs new → AreInstances old →
    AreInstances new
closes-instances shows c i [] old new h k = subst AreInstances (sym h) k
closes-instances shows c i (None ∷ hs) old new h k = closes-instances shows c _ hs old new h k
closes-instances shows c i (Some x ∷ hs) old new h k =
    closes-instances shows c _ hs h.1 new h.3 (step-instances shows old c (Close i) h.0 h.1 h.2 k)

-- a client comes
joined-instances : (s : State) (tags : List ℕ) → length tags ≤ HOOKS_MAX → AreInstances s → AreInstances (joined s tags)
joined-instances s tags few h = record {
  apart =
      subst (IsDistinct nat_eq) (sym one-more)
      (last-apart (hearers_of s.instances) s.arrived h.apart
      (recursion_from_All (λ y. nat_eq y s.arrived ≡ false) (hearers_of s.instances)
      (All-weaker (λ c. c < s.arrived) (λ y. nat_eq y s.arrived ≡ false) other (hearers_of s.instances) h.before)));
  before =
      subst (All (λ c. c < suc s.arrived)) (sym one-more)
      (All-push (λ c. c < suc s.arrived) (hearers_of s.instances) s.arrived
      (All-weaker (λ c. c < s.arrived) (λ c. c < suc s.arrived) (λ c b. omega arith) (hearers_of s.instances) h.before) (omega arith));
  each = All-push IsInstance s.instances (silent s.arrived tags) h.each (record {
    hooks = few;
    watches = All-nil (IsWatch (length tags) 0);
    apart = λ i j d b below. absurd (omega arith);
    few = omega arith;
    unread = record { short = omega arith; full = λ more. absurd (omega arith) };
  });
}
  where
    one-more : hearers_of (s.instances ++ silent s.arrived tags ∷ []) ≡ hearers_of s.instances ++ s.arrived ∷ []
    one-more = map-append (λ (e : Instance). e.client) s.instances (silent s.arrived tags ∷ [])

    other : (y : ℕ) → y < s.arrived → nat_eq y s.arrived ≡ false
    other y b = ne_eqb y s.arrived (λ same. absurd (omega arith))

-- a client's instance goes
left-instances : (s : State) (c : ℕ) → AreInstances s → AreInstances (without_instance s c)
left-instances s c h =
    let fewer = filter-map {A = Instance} (λ e. e.client) c s.instances in
    record {
      apart = subst (IsDistinct nat_eq) (sym fewer) (but-apart c (hearers_of s.instances) h.apart);
      before =
          subst (All (λ x. x < s.arrived)) (sym fewer)
          (All-filter (λ x. not (nat_eq x c)) (λ x. x < s.arrived) (hearers_of s.instances) h.before);
      each = All-filter (λ e. not (nat_eq e.client c)) IsInstance s.instances h.each;
    }

-- whatever a client does, by any rule
pub does-instances : (shows : Rule) (old : State) (c : ℕ) (deed : Deed) (new : State) → Does shows old c deed new → AreInstances old →
    AreInstances new
does-instances shows old c (Attached tags) new h k = subst AreInstances (sym h.3) (joined-instances old tags h.1 k)
does-instances shows old c (Called call reply) new h k = step-instances shows old c call reply new h.1 k
does-instances shows old c Detached new h k =
    let mid = closes-instances shows c 0 (handles_of old.tables c) (without_instance old c) h.1.0 h.1.1 (left-instances old c k) in
    subst AreInstances (sym h.1.2) (record { apart = mid.apart; before = mid.before; each = mid.each })

-- every state of a run, by any rule
pub run-instances : (shows : Rule) (es : List Entry) (old new : State) → Run shows old es new → AreInstances old → AreInstances new
run-instances shows [] old new h k = subst AreInstances (sym h) k
run-instances shows (e ∷ es) old new h k = run-instances shows es h.0 new h.2 (does-instances shows old e.client e.deed h.0 h.1 k)

-- no numbers are apart
none-apart : IsDistinct nat_eq []
unfolding IsDistinct
none-apart = tt

-- a mount begins with no instances
pub no-instances : (t : Tree) (options : MountOptions) → AreInstances (opening t options)
no-instances t options = record { apart = none-apart; before = All-nil (λ c. c < 0); each = All-nil IsInstance }

-- the law of steps
pub instances-kept : (shows : Rule) → LawOfInstances shows
instances-kept shows old new c deed k h = does-instances shows old c deed new h k

-- the law of runs
pub instances-of-runs : (shows : Rule) → LawOfInstancesOfRuns shows
instances-of-runs shows t options es last h = run-instances shows es (opening t options) last h (no-instances t options)
