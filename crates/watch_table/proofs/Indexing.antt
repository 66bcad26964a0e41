-- The index of watched objects after what changes instances.
use Rattle.std.proofs.Common.{◌≡◌, ◌≢◌, ℕ, ◌+◌, ◌<◌, Bool, true, false, cond, not, ◌&&◌, ◌||◌, filter, map, List, [], ◌∷◌, ◌++◌, Option, Some, None, Result, Ok, Err, refl, sym, ap, subst, ◌∙◌, inl, inr, nat_eq, eqb-true, eq-eqb, arith, bit_and}
use Rattle.std.specs.Prelude.{is_some, option_map, OnOk, OnErr, IfOk}
use Rattle.std.specs.List.{AllByRecursion, IsDistinct, list_any}
use Rattle.std.proofs.lemmas.Bool.{false≢true, cases_Bool}
use Rattle.std.proofs.lemmas.Cmp.{nat_eq_equiv}
use Rattle.std.proofs.lemmas.List.Elements.{recursion_from_All, filter_passes}
use Rattle.std.proofs.lemmas.List.Folds.{list_any-append}
use Rattle.std.proofs.lemmas.Map.Keys.{IsDistinct-push}
use Rattle.ov_base.specs.declared.node_id.NodeId.TheVariants.{New}
use Rattle.plain_model.specs.Watching.{Watch, Instance, EVENTS, ONESHOT, has_bit, silent}
use Rattle.plain_model.specs.Tree.{same_id}
use Rattle.plain_model.specs.Machine.{instance_of, watches_of, watch_on}
use Rattle.plain_model.specs.Changes.{at_client, armed_on, re_mask}
use Rattle.watch_table.specs.Clients.{clients_of, AreRising, watches}
use Rattle.watch_table.specs.Listening.{is_on, rearmed}
use Rattle.watch_table.specs.Watched.{Watched, watchers_of, SetsWatchers, SameWatchers, IsIndexOf}
use Rattle.watch_table.proofs.Arming.{found-any, rearmed-keeps}
use Rattle.watch_table.proofs.Clients.{nat_ne}
use Rattle.watch_table.proofs.Keys.{distinct_filter, distinct_none}
use Rattle.watch_table.proofs.Reaching.{and-false, kept-all}

or-false : (b : Bool) → (b || false) ≡ b
or-false true = refl
or-false false = refl

or-true : (b : Bool) → (b || true) ≡ true
or-true true = refl
or-true false = refl

-- whatever a result is
pub on-both : {A B P : Type 0} (r : Result A B) → OnOk r P → OnErr r P → P
on-both (Ok a) h k = h
on-both (Err b) h k = k

pub OnOk-from : {A B : Type 0} (P : Type 0) (r : Result A B) → IfOk r (λ a. P) → OnOk r P
OnOk-from P (Ok a) h = h
OnOk-from P (Err b) h = h

-- a client among those that pass a test
contains-filter : (c : ℕ) (p : ℕ → Bool) (ks : List ℕ) → list_any (nat_eq c) (filter p ks) ≡ (list_any (nat_eq c) ks && p c)
contains-filter c p [] = refl
contains-filter c p (k ∷ ks) = by (nat_eq c k) (p k) refl refl (contains-filter c p ks)
  where
    all : Bool
    all = list_any (nat_eq c) ks

    rest : List ℕ
    rest = filter p ks

    by : (x q : Bool) → nat_eq c k ≡ x → p k ≡ q → list_any (nat_eq c) rest ≡ (all && p c) →
        list_any (nat_eq c) (cond q (k ∷ rest) rest) ≡ ((x || all) && p c)
    by true true e f h = ap (λ y. y || list_any (nat_eq c) rest) e ∙ sym (ap p (eqb-true c k e) ∙ f)
    by true false e f h = let off = ap p (eqb-true c k e) ∙ f in h ∙ ap (λ y. all && y) off ∙ and-false all ∙ sym off
    by false true e f h = ap (λ y. y || list_any (nat_eq c) rest) e ∙ h
    by false false e f h = h

same-keys : (ks : List ℕ) → map (λ k. k) ks ≡ ks
same-keys [] = refl
same-keys (k ∷ ks) = ap (λ xs. k ∷ xs) (same-keys ks)

once-filter : (p : ℕ → Bool) (ks : List ℕ) → IsDistinct nat_eq ks → IsDistinct nat_eq (filter p ks)
once-filter p ks h = subst (IsDistinct nat_eq) (same-keys (filter p ks))
    (distinct_filter nat_eq (λ k. k) p ks (subst (IsDistinct nat_eq) (sym (same-keys ks)) h))

-- no object is watched by no client
pub index-none : (t : Watched) → ((n : ℕ) → watchers_of t n ≡ []) → IsIndexOf [] t
index-none t h = record {
  exact = λ n c. ap (list_any (nat_eq c)) (h n);
  once = λ n. subst (IsDistinct nat_eq) (sym (h n)) (distinct_none nat_eq (λ (k : ℕ). k));
}

-- instances whose clients watch the same objects
pub index-kept : (es fs : List Instance) (t : Watched) → IsIndexOf es t → ((n c : ℕ) → watches fs n c ≡ watches es n c) → IsIndexOf fs t
index-kept es fs t h same = record { exact = λ n c. h.exact n c ∙ sym (same n c); once = h.once }

-- an index that tells the same
pub index-same : (es : List Instance) (t u : Watched) → IsIndexOf es t → SameWatchers t u → IsIndexOf es u
index-same es t u h same = record {
  exact = λ n c. ap (list_any (nat_eq c)) (same n) ∙ h.exact n c;
  once = λ n. subst (IsDistinct nat_eq) (sym (same n)) (h.once n);
}

-- clients that watch less of one object, and of others the same
pub index-less : (es fs : List Instance) (t u : Watched) (o : ℕ) → IsIndexOf es t →
    SetsWatchers t u o (filter (watches fs o) (watchers_of t o)) → ((n c : ℕ) → n ≢ o → watches fs n c ≡ watches es n c) →
    ((c : ℕ) → (watches es o c && watches fs o c) ≡ watches fs o c) → IsIndexOf fs u
index-less es fs t u o h set others less = record {
  exact = λ n c. elim (cases_Bool (nat_eq n o)) [
    | inl q ↦ subst (λ x. list_any (nat_eq c) (watchers_of u x) ≡ watches fs x c) (sym (eqb-true n o q))
        (ap (list_any (nat_eq c)) set.here ∙ contains-filter c (watches fs o) (watchers_of t o)
        ∙ ap (λ b. b && watches fs o c) (h.exact o c) ∙ less c)
    | inr f ↦ ap (list_any (nat_eq c)) (set.others n (ne n f)) ∙ h.exact n c ∙ sym (others n c (ne n f))
  ];
  once = λ n. elim (cases_Bool (nat_eq n o)) [
    | inl q ↦ subst (λ x. IsDistinct nat_eq (watchers_of u x)) (sym (eqb-true n o q))
        (subst (IsDistinct nat_eq) (sym set.here) (once-filter (watches fs o) (watchers_of t o) (h.once o)))
    | inr f ↦ subst (IsDistinct nat_eq) (sym (set.others n (ne n f))) (h.once n)
  ];
}
  where
    ne : (n : ℕ) → nat_eq n o ≡ false → n ≢ o
    ne n f same = false≢true (sym f ∙ eq-eqb n o same)

-- a client that watches one object more
pub index-more : (es fs : List Instance) (t u : Watched) (o k : ℕ) → IsIndexOf es t → SetsWatchers t u o (watchers_of t o ++ k ∷ []) →
    watches es o k ≡ false → ((n c : ℕ) → watches fs n c ≡ (watches es n c || (nat_eq c k && nat_eq n o))) → IsIndexOf fs u
index-more es fs t u o k h set off more = record {
  exact = λ n c. elim (cases_Bool (nat_eq n o)) [
    | inl q ↦ subst (λ x. list_any (nat_eq c) (watchers_of u x) ≡ watches fs x c) (sym (eqb-true n o q)) (here c)
    | inr f ↦ ap (list_any (nat_eq c)) (set.others n (ne n f)) ∙ h.exact n c
        ∙ sym (more n c ∙ ap (λ b. watches es n c || (nat_eq c k && b)) f ∙ ap (λ b. watches es n c || b) (and-false (nat_eq c k))
        ∙ or-false (watches es n c))
  ];
  once = λ n. elim (cases_Bool (nat_eq n o)) [
    | inl q ↦ subst (λ x. IsDistinct nat_eq (watchers_of u x)) (sym (eqb-true n o q))
        (subst (IsDistinct nat_eq) (sym set.here) (IsDistinct-push nat_eq_equiv (watchers_of t o) k (h.once o) (h.exact o k ∙ off)))
    | inr f ↦ subst (IsDistinct nat_eq) (sym (set.others n (ne n f))) (h.once n)
  ];
}
  where
    ne : (n : ℕ) → nat_eq n o ≡ false → n ≢ o
    ne n f same = false≢true (sym f ∙ eq-eqb n o same)

    and-true : (b : Bool) → (b && true) ≡ b
    and-true true = refl
    and-true false = refl

    here : (c : ℕ) → list_any (nat_eq c) (watchers_of u o) ≡ watches fs o c
    here c =
        ap (list_any (nat_eq c)) set.here ∙ list_any-append (nat_eq c) (watchers_of t o) (k ∷ [])
        ∙ ap (λ b. b || (nat_eq c k || false)) (h.exact o c)
        ∙ ap (λ b. watches es o c || b) (or-false (nat_eq c k) ∙ sym (ap (λ b. nat_eq c k && b) (eq-eqb o o refl) ∙ and-true (nat_eq c k)))
        ∙ sym (more o c)

-- a client that comes watches nothing
pub came-watches : (es : List Instance) (c : ℕ) (tags : List ℕ) (n k : ℕ) → watches (es ++ silent c tags ∷ []) n k ≡ watches es n k
came-watches [] c tags n k = by (nat_eq c k)
  where
    by : (b : Bool) → is_on n (watches_of (cond b (Some (silent c tags)) None)) ≡ false
    by true = refl
    by false = refl
came-watches (e ∷ es) c tags n k = by (nat_eq e.client k) (came-watches es c tags n k)
  where
    by : (b : Bool) → watches (es ++ silent c tags ∷ []) n k ≡ watches es n k →
        is_on n (watches_of (cond b (Some e) (instance_of (es ++ silent c tags ∷ []) k)))
        ≡ is_on n (watches_of (cond b (Some e) (instance_of es k)))
    by true h = refl
    by false h = h

-- what clients watch after a change of one of them
changed-watches : (c : ℕ) (f : Instance → Instance) (es : List Instance) (n k : ℕ) → ((e : Instance) → (f e).client ≡ e.client) →
    watches (at_client c f es) n k ≡ cond (nat_eq k c) (is_on n (watches_of (option_map f (instance_of es k)))) (watches es n k)
changed-watches c f [] n k same = by (nat_eq k c)
  where
    by : (b : Bool) → false ≡ cond b false false
    by true = refl
    by false = refl
changed-watches c f (e ∷ es) n k same =
    ap (λ x. is_on n (watches_of (cond (nat_eq x k) (Some (cond (nat_eq e.client c) (f e) e)) (instance_of (at_client c f es) k))))
    (client (nat_eq e.client c))
    ∙ by (nat_eq e.client k) refl (changed-watches c f es n k same)
  where
    client : (b : Bool) → (cond b (f e) e).client ≡ e.client
    client true = same e
    client false = refl

    one : (b : Bool) → is_on n (cond b (f e) e).watches ≡ cond b (is_on n (f e).watches) (is_on n e.watches)
    one true = refl
    one false = refl

    by : (b : Bool) → nat_eq e.client k ≡ b → watches (at_client c f es) n k
        ≡ cond (nat_eq k c) (is_on n (watches_of (option_map f (instance_of es k)))) (watches es n k)
        → is_on n (watches_of (cond b (Some (cond (nat_eq e.client c) (f e) e)) (instance_of (at_client c f es) k)))
        ≡ cond (nat_eq k c) (is_on n (watches_of (option_map f (cond b (Some e) (instance_of es k)))))
        (is_on n (watches_of (cond b (Some e) (instance_of es k))))
    by true is h = one (nat_eq e.client c) ∙ ap (λ x. cond (nat_eq x c) (is_on n (f e).watches) (is_on n e.watches))
        (eqb-true e.client k is)
    by false is h = h

-- a change that no watch is part of
pub kept-watches : (c : ℕ) (f : Instance → Instance) (es : List Instance) (n k : ℕ) → ((e : Instance) → (f e).client ≡ e.client) →
    ((e : Instance) → (f e).watches ≡ e.watches) → watches (at_client c f es) n k ≡ watches es n k
kept-watches c f es n k same kept = changed-watches c f es n k same ∙ by (nat_eq k c) ∙ refl
  where
    one : (o : Option Instance) → is_on n (watches_of (option_map f o)) ≡ is_on n (watches_of o)
    one None = refl
    one (Some e) = ap (is_on n) (kept e)

    by : (b : Bool) → cond b (is_on n (watches_of (option_map f (instance_of es k)))) (watches es n k) ≡ watches es n k
    by true = one (instance_of es k)
    by false = refl

-- what an instance watches where an object is armed
pub armed-on : (slot o mask n : ℕ) (e : Instance) → is_on n (armed_on slot (Some (New o)) mask e).watches ≡ (is_on n e.watches || nat_eq n o)
armed-on slot o mask n e = by (is_some (watch_on e.watches (Some (New o)))) refl
  where
    already : (a b : Bool) → (b ≡ true → a ≡ true) → a ≡ (a || b)
    already true b h = refl
    already false true h = h refl
    already false false h = refl

    here : is_some (watch_on e.watches (Some (New o))) ≡ true → nat_eq n o ≡ true → is_on n e.watches ≡ true
    here on q = ap (λ x. is_on x e.watches) (eqb-true n o q) ∙ sym (found-any (λ w. same_id (New o) w.node) e.watches) ∙ on

    again : (ws : List Watch) → is_on n (map (rearmed (New o) mask) ws) ≡ is_on n ws
    again [] = refl
    again (w ∷ ws) = ap (λ d. same_id (New n) d || is_on n (map (rearmed (New o) mask) ws))
        (rearmed-keeps (λ v. v.node) (New o) mask w (λ m p. refl)) ∙ ap (λ b. same_id (New n) w.node || b) (again ws)

    by : (b : Bool) → is_some (watch_on e.watches (Some (New o))) ≡ b →
        is_on n (cond b (record e { watches = map (λ w. cond (same_id (New o) w.node) (re_mask mask w) w) e.watches })
        (record e {
          armed = e.armed + 1;
          watches = e.watches ++ record {
            number = e.armed + 1;
            slot = slot;
            node = New o;
            mask = bit_and mask EVENTS;
            once = has_bit mask ONESHOT;
          } ∷ [];
        })).watches ≡ (is_on n e.watches || nat_eq n o)
    by true on = again e.watches ∙ already (is_on n e.watches) (nat_eq n o) (here on)
    by false on = list_any-append (λ w. same_id (New n) w.node) e.watches _ ∙ ap (λ b. is_on n e.watches || b) (or-false (nat_eq n o))

-- what clients watch after one of them armed an object
pub armed-watches : (es : List Instance) (c : ℕ) (e : Instance) (slot o mask : ℕ) → instance_of es c ≡ Some e →
    ((x : Instance) → (armed_on slot (Some (New o)) mask x).client ≡ x.client) → (n k : ℕ) →
    watches (at_client c (armed_on slot (Some (New o)) mask) es) n k ≡ (watches es n k || (nat_eq k c && nat_eq n o))
armed-watches es c e slot o mask is same n k = changed-watches c (armed_on slot (Some (New o)) mask) es n k same ∙ by (nat_eq k c) refl
  where
    by : (b : Bool) → nat_eq k c ≡ b → cond b (is_on n (watches_of (option_map (armed_on slot (Some (New o)) mask) (instance_of es k))))
        (watches es n k) ≡ (watches es n k || (b && nat_eq n o))
    by true q =
        let at : instance_of es k ≡ Some e = ap (instance_of es) (eqb-true k c q) ∙ is in
        ap (λ x. is_on n (watches_of (option_map (armed_on slot (Some (New o)) mask) x))) at ∙ armed-on slot o mask n e
        ∙ sym (ap (λ x. is_on n (watches_of x) || nat_eq n o) at)
    by false q = sym (or-false (watches es n k))

-- the instances without one client's
gone-instance : (es : List Instance) (c k : ℕ) → instance_of (filter (λ e. not (nat_eq e.client c)) es) k
    ≡ cond (nat_eq k c) None (instance_of es k)
gone-instance [] c k = by (nat_eq k c)
  where
    by : (b : Bool) → None ≡ cond {A = Option Instance} b None None
    by true = refl
    by false = refl
gone-instance (e ∷ es) c k = by (nat_eq e.client c) (nat_eq e.client k) refl refl (gone-instance es c k)
  where
    rest : List Instance
    rest = filter (λ x. not (nat_eq x.client c)) es

    by : (b d : Bool) → nat_eq e.client c ≡ b → nat_eq e.client k ≡ d → instance_of rest k ≡ cond (nat_eq k c) None (instance_of es k) →
        instance_of (cond (not b) (e ∷ rest) rest) k ≡ cond (nat_eq k c) None (cond d (Some e) (instance_of es k))
    by true true p q h = h ∙ both (sym (ap (λ x. nat_eq x c) (eqb-true e.client k q)) ∙ p)
      where
        both : nat_eq k c ≡ true → cond (nat_eq k c) None (instance_of es k) ≡ cond (nat_eq k c) None (Some e)
        both t = ap (λ b. cond b None (instance_of es k)) t ∙ sym (ap (λ b. cond b None (Some e)) t)
    by true false p q h = h
    by false true p q h = ap (λ b. cond b (Some e) (instance_of rest k)) q
        ∙ sym (ap (λ b. cond b None (Some e)) (sym (ap (λ x. nat_eq x c) (eqb-true e.client k q)) ∙ p))
    by false false p q h = ap (λ b. cond b (Some e) (instance_of rest k)) q ∙ h

-- an index whose objects were gone through that a client watched who went
pub index-gone : (es fs : List Instance) (t u : Watched) (c : ℕ) (e : Instance) → fs ≡ filter (λ x. not (nat_eq x.client c)) es →
    instance_of es c ≡ Some e → IsIndexOf es t → ((n : ℕ) → watchers_of u n
    ≡ cond (is_on n e.watches) (filter (watches fs n) (watchers_of t n)) (watchers_of t n)) → IsIndexOf fs u
index-gone es fs t u c e gone is h set = record {
  exact = λ n k. by n k (is_on n e.watches) refl;
  once = λ n. subst (IsDistinct nat_eq) (sym (set n)) (single n (is_on n e.watches));
}
  where
    left : (n k : ℕ) → watches fs n k ≡ is_on n (watches_of (cond (nat_eq k c) None (instance_of es k)))
    left n k = ap (λ xs. watches xs n k) gone ∙ ap (λ o. is_on n (watches_of o)) (gone-instance es c k)

    single : (n : ℕ) (b : Bool) → IsDistinct nat_eq (cond b (filter (watches fs n) (watchers_of t n)) (watchers_of t n))
    single n true = once-filter (watches fs n) (watchers_of t n) (h.once n)
    single n false = h.once n

    less : (n k : ℕ) (b : Bool) → (watches es n k && is_on n (watches_of (cond b None (instance_of es k))))
        ≡ is_on n (watches_of (cond b None (instance_of es k)))
    less n k true = and-false (watches es n k)
    less n k false = twice (watches es n k)
      where
        twice : (b : Bool) → (b && b) ≡ b
        twice true = refl
        twice false = refl

    kept : (n k : ℕ) (b : Bool) → nat_eq k c ≡ b → is_on n e.watches ≡ false →
        watches es n k ≡ is_on n (watches_of (cond b None (instance_of es k)))
    kept n k true q off = ap (λ o. is_on n (watches_of o)) (ap (instance_of es) (eqb-true k c q) ∙ is) ∙ off
    kept n k false q off = refl

    by : (n k : ℕ) (b : Bool) → is_on n e.watches ≡ b → list_any (nat_eq k) (watchers_of u n) ≡ watches fs n k
    by n k true on =
        ap (list_any (nat_eq k)) (set n ∙ ap (λ b. cond b (filter (watches fs n) (watchers_of t n)) (watchers_of t n)) on)
        ∙ contains-filter k (watches fs n) (watchers_of t n) ∙ ap (λ b. b && watches fs n k) (h.exact n k)
        ∙ ap (λ b. watches es n k && b) (left n k) ∙ less n k (nat_eq k c) ∙ sym (left n k)
    by n k false off =
        ap (list_any (nat_eq k)) (set n ∙ ap (λ b. cond b (filter (watches fs n) (watchers_of t n)) (watchers_of t n)) off)
        ∙ h.exact n k ∙ kept n k (nat_eq k c) refl off ∙ sym (left n k)

own-lifted : (e : Instance) (es fs : List Instance) → AllByRecursion (λ d. e.client < d) (clients_of fs) →
    AllByRecursion (λ (f : Instance). instance_of es f.client ≡ Some f) fs →
    AllByRecursion (λ (f : Instance). instance_of (e ∷ es) f.client ≡ Some f) fs
own-lifted e es [] a h = tt
own-lifted e es (f ∷ fs) a h = (
  ap (λ b. cond b (Some e) (instance_of es f.client)) (nat_ne e.client f.client (λ same. let above = a.0 in omega arith))
      ∙ h.0,
  own-lifted e es fs a.1 h.1,
)

-- each instance is its client's
pub each-own : (es : List Instance) → AreRising (clients_of es) → AllByRecursion (λ (e : Instance). instance_of es e.client ≡ Some e) es
each-own [] a = tt
each-own (e ∷ es) a = (
  ap (λ b. cond b (Some e) (instance_of es e.client)) (eq-eqb e.client e.client refl),
  own-lifted e es es a.0
      (each-own es a.1),
)

-- the index after one object more was gone through
pub refreshed-more : (es : List Instance) (t cur u : Watched) (ws : List Watch) (w : Watch) (m : ℕ) → w.node ≡ New m →
    ((n : ℕ) → watchers_of cur n ≡ cond (is_on n ws) (filter (watches es n) (watchers_of t n)) (watchers_of t n)) →
    SetsWatchers cur u m (filter (watches es m) (watchers_of cur m)) → (n : ℕ) →
    watchers_of u n ≡ cond (is_on n (ws ++ w ∷ [])) (filter (watches es n) (watchers_of t n)) (watchers_of t n)
refreshed-more es t cur u ws w m node before set n = elim (cases_Bool (nat_eq n m)) [
  | inl q ↦ here (eqb-true n m q)
  | inr f ↦ set.others n (λ same. false≢true (sym f ∙ eq-eqb n m same)) ∙ before n
      ∙ ap (λ b. cond b (filter (watches es n) (watchers_of t n)) (watchers_of t n))
      (sym (more ∙ ap (λ b. is_on n ws || (b || false)) f ∙ or-false (is_on n ws)))
]
  where
    more : is_on n (ws ++ w ∷ []) ≡ (is_on n ws || (nat_eq n m || false))
    more = list_any-append (λ v. same_id (New n) v.node) ws (w ∷ []) ∙ ap (λ d. is_on n ws || (same_id (New n) d || false)) node

    twice : (b : Bool) → filter (watches es n) (cond b (filter (watches es n) (watchers_of t n)) (watchers_of t n))
        ≡ filter (watches es n) (watchers_of t n)
    twice true = kept-all (watches es n) (filter (watches es n) (watchers_of t n))
        (recursion_from_All (λ c. watches es n c ≡ true) (filter (watches es n) (watchers_of t n))
        (filter_passes (watches es n) (watchers_of t n)))
    twice false = refl

    here : n ≡ m → watchers_of u n ≡ cond (is_on n (ws ++ w ∷ [])) (filter (watches es n) (watchers_of t n)) (watchers_of t n)
    here q =
        subst (λ x. watchers_of u x ≡ filter (watches es x) (watchers_of cur x)) (sym q) set.here
        ∙ ap (filter (watches es n)) (before n) ∙ twice (is_on n ws)
        ∙ ap (λ b. cond b (filter (watches es n) (watchers_of t n)) (watchers_of t n))
        (sym (more ∙ ap (λ b. is_on n ws || (b || false)) (eq-eqb n m q) ∙ or-true (is_on n ws)))

-- an object that the client watches already
pub already-watched : (es : List Instance) (c o : ℕ) → watches es o c ≡ true → (n k : ℕ) →
    (watches es n k || (nat_eq k c && nat_eq n o)) ≡ watches es n k
already-watched es c o h n k = by (nat_eq k c) (nat_eq n o) refl refl
  where
    by : (a b : Bool) → nat_eq k c ≡ a → nat_eq n o ≡ b → (watches es n k || (a && b)) ≡ watches es n k
    by true true p q =
        let on : watches es n k ≡ true = ap (λ x. watches es x k) (eqb-true n o q) ∙ ap (watches es o) (eqb-true k c p) ∙ h in
        ap (λ b. b || true) on ∙ sym on
    by true false p q = or-false (watches es n k)
    by false b p q = or-false (watches es n k)
