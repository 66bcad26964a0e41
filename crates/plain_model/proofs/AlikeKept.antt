-- What instances that are alike answer, and what calls make of them.
use Rattle.std.proofs.Common.{◌≡◌, ℕ, ◌+◌, Bool, true, false, cond, not, ◌&&◌, ◌||◌, List, [], ◌∷◌, ◌++◌, Option, None, Some, refl, sym, ap, subst, subst₂, ◌∙◌, length, map, find, drop, nat_eq, is_some, is_none, bit_and, bit_or, pos, int_eq}
use Rattle.std.specs.List.{list_any, AllZip}
use Rattle.std.proofs.lemmas.Bool.{false≢true, or_left, or_right}
use Rattle.std.proofs.lemmas.List.Elements.{filter-append}
use Rattle.ov_base.specs.declared.node_id.NodeId.{NodeId}
use Rattle.plain_model.specs.Tree.{same_id}
use Rattle.plain_model.specs.Watching.{EVENTS, MASK_ADD, ONESHOT, has_bit, Aim, Watch, Instance, silent, is_numbered, is_aimed}
use Rattle.plain_model.specs.Machine.{instance_of, hooks_of, watches_of, armed_of, watch_on}
use Rattle.plain_model.specs.Refusals.{is_busy}
use Rattle.plain_model.specs.Changes.{re_mask, armed_on, at_client}
use Rattle.plain_model.specs.Replies.{queue_of, number_of, next_number}
use Rattle.plain_model.specs.Alike.{Identities, IsOneToOne, AreAlikeWatches, AreAlikeInstances, AreAllAlike, AreAlikeAims, AreAlikeSubjects, is_watched, heard_by, TellsAlike, AnswersAlike, ChangesAlike, LawOfAlikeInstances, LawOfOtherIdentities}
use Rattle.plain_model.proofs.Paths.{ids_tell}
use Rattle.plain_model.proofs.Alike.{zip-filter, zip-any, same-ids, same-aimed}

-- both are there and agree, or neither is
abbrev Both : {A B : Type 0} → (A → B → Type 0) → Option A → Option B → Type 0
Both R None None = Unit {0}
Both R (Some x) (Some y) = R x y
Both R None (Some y) = ⊥
Both R (Some x) None = ⊥

-- the first ones at which two tests pass that agree
zip-find : {A B : Type 0} (R : A → B → Type 0) (p : A → Bool) (q : B → Bool) → ((x : A) (y : B) → R x y → p x ≡ q y) →
    (xs : List A) (ys : List B) → AllZip R xs ys → Both R (find p xs) (find q ys)
zip-find R p q same [] [] h = tt
zip-find R p q same [] (y ∷ ys) h = absurd h
zip-find R p q same (x ∷ xs) [] h = absurd h
zip-find R p q same (x ∷ xs) (y ∷ ys) h = by (p x) (q y) (same x y h.0) (zip-find R p q same xs ys h.1)
  where
    by : (b c : Bool) → b ≡ c → Both R (find p xs) (find q ys) → Both R (cond b (Some x) (find p xs)) (cond c (Some y) (find q ys))
    by true true e rest = h.0
    by true false e rest = absurd (false≢true (sym e))
    by false true e rest = absurd (false≢true e)
    by false false e rest = rest

-- lists that agree, after a change that keeps it
zip-map : {A B : Type 0} (R : A → B → Type 0) (f : A → A) (g : B → B) → ((x : A) (y : B) → R x y → R (f x) (g y)) →
    (xs : List A) (ys : List B) → AllZip R xs ys → AllZip R (map f xs) (map g ys)
zip-map R f g keeps [] [] h = tt
zip-map R f g keeps [] (y ∷ ys) h = absurd h
zip-map R f g keeps (x ∷ xs) [] h = absurd h
zip-map R f g keeps (x ∷ xs) (y ∷ ys) h = (keeps x y h.0, zip-map R f g keeps xs ys h.1)

-- and one after another
zip-append : {A B : Type 0} (R : A → B → Type 0) (xs : List A) (ys : List B) (us : List A) (vs : List B) → AllZip R xs ys → AllZip R us vs →
    AllZip R (xs ++ us) (ys ++ vs)
zip-append R [] [] us vs h k = k
zip-append R [] (y ∷ ys) us vs h k = absurd h
zip-append R (x ∷ xs) [] us vs h k = absurd h
zip-append R (x ∷ xs) (y ∷ ys) us vs h k = (h.0, zip-append R xs ys us vs h.1 k)

-- two that agree are there alike
both-none : {A B : Type 0} (R : A → B → Type 0) (o : Option A) (u : Option B) → Both R o u → is_none o ≡ is_none u
both-none R None None h = refl
both-none R (Some x) (Some y) h = refl
both-none R None (Some y) h = absurd h
both-none R (Some x) None h = absurd h

-- one of two alternatives by tests that agree
both-cond : {A B : Type 0} (R : A → B → Type 0) (b c : Bool) (x u : A) (y v : B) → b ≡ c → R x y → R u v → R (cond b x u) (cond c y v)
both-cond R true true x u y v e h k = h
both-cond R true false x u y v e h k = absurd (false≢true (sym e))
both-cond R false true x u y v e h k = absurd (false≢true e)
both-cond R false false x u y v e h k = k

module _ (of : Identities) (one : IsOneToOne of) where
  -- aims that are alike are at a watch, or at none
  pub same-watched : (es fs : List Instance) (x y : Aim) → AreAllAlike of es fs → AreAlikeAims of x y → is_watched es x ≡ is_watched fs y
  same-watched es fs x y alike aims =
      zip-any (AreAlikeInstances of) (λ e. list_any (is_aimed e.client x) e.watches) (λ f. list_any (is_aimed f.client y) f.watches)
      (λ e f h.
      ap (λ c. list_any (is_aimed c x) e.watches) h.client
      ∙ zip-any (AreAlikeWatches of) (is_aimed f.client x) (is_aimed f.client y)
      (λ v w k. same-aimed of one f.client x y v w aims k) e.watches f.watches h.watches)
      es fs alike

  -- how what is told is put together
  tells-alike : (es fs : List Instance) → AreAllAlike of es fs → TellsAlike of es fs
  tells-alike es fs alike = record {
    aimed = λ x y aims. same-watched es fs x y alike aims;
    none = tt;
    pair = λ s t ss ts told rest.
        both-cond (AllZip (AreAlikeSubjects of)) (is_watched es s.aim) (is_watched fs t.aim) (s ∷ heard_by es ss) (heard_by es ss)
        (t ∷ heard_by fs ts) (heard_by fs ts)
        (same-watched es fs s.aim t.aim alike told.aim) (told, rest) rest;
    engine_alone = λ s ss ts none rest.
        subst (λ b. AllZip (AreAlikeSubjects of) (cond b (s ∷ heard_by es ss) (heard_by es ss)) (heard_by fs ts)) (sym none) rest;
    state_alone = λ t ss ts none rest.
        subst (λ b. AllZip (AreAlikeSubjects of) (heard_by es ss) (cond b (t ∷ heard_by fs ts) (heard_by fs ts))) (sym none) rest;
    parts = λ ss sz ts tz first second.
        subst₂ (AllZip (AreAlikeSubjects of)) (sym (filter-append (λ s. is_watched es s.aim) ss sz))
        (sym (filter-append (λ t. is_watched fs t.aim) ts tz))
        (zip-append (AreAlikeSubjects of) (heard_by es ss) (heard_by fs ts) (heard_by es sz) (heard_by fs tz) first second);
  }

  -- what one client's instances answer
  hooks-same : (o u : Option Instance) → Both (AreAlikeInstances of) o u → hooks_of o ≡ hooks_of u
  hooks-same None None h = refl
  hooks-same (Some e) (Some f) h = ap length h.tags
  hooks-same None (Some f) h = absurd h
  hooks-same (Some e) None h = absurd h

  -- how many numbers were given
  armed-same : (o u : Option Instance) → Both (AreAlikeInstances of) o u → armed_of o ≡ armed_of u
  armed-same None None h = refl
  armed-same (Some e) (Some f) h = h.armed
  armed-same None (Some f) h = absurd h
  armed-same (Some e) None h = absurd h

  -- the next number
  next-same : (o u : Option Instance) → Both (AreAlikeInstances of) o u → next_number o ≡ next_number u
  next-same None None h = refl
  next-same (Some e) (Some f) h = ap (λ n. n + 1) h.armed
  next-same None (Some f) h = absurd h
  next-same (Some e) None h = absurd h

  -- what is not read yet
  queue-same : (o u : Option Instance) → Both (AreAlikeInstances of) o u → queue_of o ≡ queue_of u
  queue-same None None h = refl
  queue-same (Some e) (Some f) h = h.queue
  queue-same None (Some f) h = absurd h
  queue-same (Some e) None h = absurd h

  -- the watches, one by one
  watches-alike : (o u : Option Instance) → Both (AreAlikeInstances of) o u → AllZip (AreAlikeWatches of) (watches_of o) (watches_of u)
  watches-alike None None h = tt
  watches-alike (Some e) (Some f) h = h.watches
  watches-alike None (Some f) h = absurd h
  watches-alike (Some e) None h = absurd h

  -- the watches on objects that are related
  pub watch-alike : (a d : NodeId) → of a d → (vs ws : List Watch) → AllZip (AreAlikeWatches of) vs ws →
      Both (AreAlikeWatches of) (watch_on vs (Some a)) (watch_on ws (Some d))
  watch-alike a d related vs ws h =
      zip-find (AreAlikeWatches of) (λ v. same_id a v.node) (λ w. same_id d w.node)
      (λ v w k. same-ids of one a v.node d w.node related k.node) vs ws h

  -- the number of a watch, or the next
  number-same : (o u : Option Watch) (next : ℕ) → Both (AreAlikeWatches of) o u → number_of o next ≡ number_of u next
  number-same None None next h = refl
  number-same (Some v) (Some w) next h = h.number
  number-same None (Some w) next h = absurd h
  number-same (Some v) None next h = absurd h

  -- whether a slot or an object is taken
  busy-same : (a d : NodeId) (slot : ℕ) → of a d → (vs ws : List Watch) → AllZip (AreAlikeWatches of) vs ws →
      is_busy vs slot (Some a) ≡ is_busy ws slot (Some d)
  busy-same a d slot related vs ws h =
      zip-any (AreAlikeWatches of)
      (λ v. not (same_id a v.node) && nat_eq v.slot slot || same_id a v.node && not (nat_eq v.slot slot))
      (λ w. not (same_id d w.node) && nat_eq w.slot slot || same_id d w.node && not (nat_eq w.slot slot))
      (λ v w k. λ i.
      not (same-ids of one a v.node d w.node related k.node i) && nat_eq (k.slot i) slot
      || same-ids of one a v.node d w.node related k.node i && not (nat_eq (k.slot i) slot))
      vs ws h

  -- all that calls ask of a client's instance
  answers-alike : (o u : Option Instance) → Both (AreAlikeInstances of) o u → AnswersAlike of o u
  answers-alike o u here =
      let watches = watches-alike o u here in
      record {
        hooks = hooks-same o u here;
        armed = armed-same o u here;
        next = next-same o u here;
        queue = queue-same o u here;
        numbered = λ number.
            zip-any (AreAlikeWatches of) (is_numbered number) (is_numbered number) (λ v w k. ap (λ n. int_eq number (pos n)) k.number)
            (watches_of o) (watches_of u) watches;
        free = λ a d related. both-none (AreAlikeWatches of) _ _ (watch-alike a d related (watches_of o) (watches_of u) watches);
        number = λ a d next related. number-same _ _ next (watch-alike a d related (watches_of o) (watches_of u) watches);
        busy = λ a d slot related. busy-same a d slot related (watches_of o) (watches_of u) watches;
      }

  -- a client's instance is there on both sides, or on neither
  pub found-alike : (es fs : List Instance) (c : ℕ) → AreAllAlike of es fs → Both (AreAlikeInstances of) (instance_of es c) (instance_of fs c)
  found-alike es fs c alike =
      zip-find (AreAlikeInstances of) (λ e. nat_eq e.client c) (λ f. nat_eq f.client c)
      (λ e f h. ap (λ n. nat_eq n c) h.client) es fs alike

  -- a watch that is armed again
  masked-alike : (mask : ℕ) (v w : Watch) → AreAlikeWatches of v w → AreAlikeWatches of (re_mask mask v) (re_mask mask w)
  masked-alike mask v w k = by (has_bit mask MASK_ADD)
    where
      by : (b : Bool) → AreAlikeWatches of
          (cond b (record v { mask = bit_or v.mask (bit_and mask EVENTS); once = v.once || has_bit mask ONESHOT })
          (record v { mask = bit_and mask EVENTS; once = has_bit mask ONESHOT }))
          (cond b (record w { mask = bit_or w.mask (bit_and mask EVENTS); once = w.once || has_bit mask ONESHOT })
          (record w { mask = bit_and mask EVENTS; once = has_bit mask ONESHOT }))
      by true =
          let masks = ap (λ m. bit_or m (bit_and mask EVENTS)) k.mask in
          let ends = ap (λ b. b || has_bit mask ONESHOT) k.once in
          record { number = k.number; slot = k.slot; node = k.node; mask = masks; once = ends }
      by false = record { number = k.number; slot = k.slot; node = k.node; mask = refl; once = refl }

  -- a slot is armed on related objects
  pub armed-alike : (a d : NodeId) (slot mask : ℕ) → of a d → (e f : Instance) → AreAlikeInstances of e f →
      AreAlikeInstances of (armed_on slot (Some a) mask e) (armed_on slot (Some d) mask f)
  armed-alike a d slot mask related e f h =
      by (watch_on e.watches (Some a)) (watch_on f.watches (Some d)) (watch-alike a d related e.watches f.watches h.watches)
    where
      new : ℕ → NodeId → Watch
      new n x = record { number = n; slot = slot; node = x; mask = bit_and mask EVENTS; once = has_bit mask ONESHOT }

      again : NodeId → Watch → Watch
      again x w = cond (same_id x w.node) (re_mask mask w) w

      rearmed : AreAlikeInstances of (record e { watches = map (again a) e.watches }) (record f { watches = map (again d) f.watches })
      rearmed = record {
        client = h.client;
        tags = h.tags;
        watches =
            zip-map (AreAlikeWatches of) (again a) (again d)
            (λ v w k.
            both-cond (AreAlikeWatches of) (same_id a v.node) (same_id d w.node) (re_mask mask v) v (re_mask mask w) w
            (same-ids of one a v.node d w.node related k.node) (masked-alike mask v w k) k)
            e.watches f.watches h.watches;
        armed = h.armed;
        queue = h.queue;
      }

      more : AreAlikeInstances of (record e { armed = e.armed + 1; watches = e.watches ++ new (e.armed + 1) a ∷ [] })
          (record f { armed = f.armed + 1; watches = f.watches ++ new (f.armed + 1) d ∷ [] })
      more = record {
        client = h.client;
        tags = h.tags;
        watches = zip-append (AreAlikeWatches of) e.watches f.watches (new (e.armed + 1) a ∷ []) (new (f.armed + 1) d ∷ []) h.watches
            (record { number = ap (λ n. n + 1) h.armed; slot = refl; node = related; mask = refl; once = refl }, tt);
        armed = ap (λ n. n + 1) h.armed;
        queue = h.queue;
      }

      by : (o u : Option Watch) → Both (AreAlikeWatches of) o u → AreAlikeInstances of
          (cond (is_some o) (record e { watches = map (again a) e.watches })
          (record e { armed = e.armed + 1; watches = e.watches ++ new (e.armed + 1) a ∷ [] }))
          (cond (is_some u) (record f { watches = map (again d) f.watches })
          (record f { armed = f.armed + 1; watches = f.watches ++ new (f.armed + 1) d ∷ [] }))
      by (Some v) (Some w) k = rearmed
      by None None k = more
      by None (Some w) k = absurd k
      by (Some v) None k = absurd k

  -- one client's instance changes
  pub at-alike : (c : ℕ) (g h : Instance → Instance) → ((e f : Instance) → AreAlikeInstances of e f → AreAlikeInstances of (g e) (h f)) →
      (es fs : List Instance) → AreAllAlike of es fs → AreAllAlike of (at_client c g es) (at_client c h fs)
  at-alike c g h keeps es fs alike =
      zip-map (AreAlikeInstances of) (λ e. cond (nat_eq e.client c) (g e) e) (λ f. cond (nat_eq f.client c) (h f) f)
      (λ e f k.
      both-cond (AreAlikeInstances of) (nat_eq e.client c) (nat_eq f.client c) (g e) e (h f) f
      (ap (λ n. nat_eq n c) k.client) (keeps e f k) k)
      es fs alike

  -- all that calls make of it
  changes-alike : (es fs : List Instance) (c : ℕ) → AreAllAlike of es fs → ChangesAlike of es fs c
  changes-alike es fs c alike = record {
    arms = λ a d slot mask related.
        at-alike c (armed_on slot (Some a) mask) (armed_on slot (Some d) mask) (armed-alike a d slot mask related) es fs alike;
    reads = λ n.
        at-alike c (λ e. record e { queue = drop n e.queue }) (λ f. record f { queue = drop n f.queue })
        (λ e f h. record { client = h.client; tags = h.tags; watches = h.watches; armed = h.armed; queue = ap (drop n) h.queue })
        es fs alike;
    comes = λ tags.
        zip-append (AreAlikeInstances of) es fs (silent c tags ∷ []) (silent c tags ∷ []) alike
        (record { client = refl; tags = refl; watches = tt; armed = refl; queue = refl }, tt);
    goes =
        zip-filter (AreAlikeInstances of) (λ e. not (nat_eq e.client c)) (λ f. not (nat_eq f.client c))
        (λ e f h. ap (λ n. not (nat_eq n c)) h.client) es fs alike;
  }

-- what alike instances keep
pub alike-kept : (of : Identities) → LawOfAlikeInstances of
alike-kept of es fs one alike = record {
  tells = tells-alike of one es fs alike;
  answers = λ c. answers-alike of one (instance_of es c) (instance_of fs c) (found-alike of one es fs c alike);
  changes = λ c. changes-alike of one es fs c alike;
}

-- watches whose identities stand for each other by now
watches-now : (of now : Identities) (vs ws : List Watch) →
    ((a d : NodeId) → list_any (λ v. same_id a v.node) vs ≡ true → of a d → now a d) → AllZip (AreAlikeWatches of) vs ws →
    AllZip (AreAlikeWatches now) vs ws
watches-now of now [] [] by h = tt
watches-now of now [] (w ∷ ws) by h = absurd h
watches-now of now (v ∷ vs) [] by h = absurd h
watches-now of now (v ∷ vs) (w ∷ ws) by h =
    let k = h.0 in (
      record {
        number = k.number;
        slot = k.slot;
        node = by v.node w.node
            (or_left (same_id v.node v.node) _ ((ids_tell v.node v.node).1 refl)) k.node;
        mask = k.mask;
        once = k.once;
      },
      watches-now of now vs ws (λ a d there. by a d (or_right (same_id a v.node) _ there)) h.1,
    )

-- and instances
pub alike-now : (of now : Identities) → LawOfOtherIdentities of now
alike-now of now [] [] by h = tt
alike-now of now [] (f ∷ fs) by h = absurd h
alike-now of now (e ∷ es) [] by h = absurd h
alike-now of now (e ∷ es) (f ∷ fs) by h =
    let k = h.0 in (
      record {
        client = k.client;
        tags = k.tags;
        watches = watches-now of now e.watches f.watches
            (λ a d there. by a d (or_left (list_any (λ v. same_id a v.node) e.watches) _ there)) k.watches;
        armed = k.armed;
        queue = k.queue;
      },
      alike-now of now es fs (λ a d there. by a d (or_right (list_any (λ v. same_id a v.node) e.watches) _ there)) h.1,
    )
