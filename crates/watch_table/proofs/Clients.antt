-- One client's instance among all.
use Rattle.std.proofs.Common.{◌≡◌, ◌≢◌, ℕ, zero, suc, ◌+◌, bit_and, is_some, ◌<◌, ◌≤◌, Bool, true, false, cond, not, filter, List, [], ◌∷◌, ◌++◌, map, Some, None, Result, Ok, Err, MatchResult, length, get_or, set, refl, sym, ap, subst, ◌∙◌, arith, ◌⊎◌, inl, inr, nat_eq, eqb-true, eq-eqb}
use Rattle.std.specs.List.{AllByRecursion, remove}
use Rattle.std.specs.List.Sorted.{IsSearchInRange, IsBinarySearchResult, IsNonDecreasingBy}
use Rattle.std.specs.Ordering.{nat_cmp, ordering_index}
use Rattle.std.proofs.lemmas.Bool.{cases_Bool, cases_lt, false≢true}
use Rattle.std.proofs.lemmas.Bool.Decides.{nat_tests}
use Rattle.std.proofs.lemmas.Cmp.{ranked}
use Rattle.plain_model.specs.Watching.{Instance, EVENTS, ONESHOT, has_bit}
use Rattle.plain_model.specs.Machine.{instance_of, watch_on}
use Rattle.plain_model.specs.Changes.{at_client, armed_on, re_mask}
use Rattle.plain_model.specs.Tree.{same_id}
use Rattle.ov_base.specs.declared.node_id.NodeId.{NodeId}
use Rattle.watch_table.specs.Clients.{clients_of, AreRising, IsPlace}

pub nat_ne : (a b : ℕ) → a ≢ b → nat_eq a b ≡ false
nat_ne a b h = elim (cases_Bool (nat_eq a b)) [ inl t ↦ absurd (h (eqb-true a b t)) | inr f ↦ f ]

-- no instance is the client's
abbrev pub IsAbsent : ℕ → List Instance → Type 0
IsAbsent c es = AllByRecursion (λ (e : Instance). e.client ≢ c) es

-- none of those after a client is its own
pub above-absent : (c : ℕ) (es : List Instance) → AllByRecursion (λ d. c < d) (clients_of es) → IsAbsent c es
above-absent c [] h = tt
above-absent c (e ∷ es) h = ((λ same. let above = h.0 in omega arith), above-absent c es h.1)

pub absent-instance_of : (c : ℕ) (es : List Instance) → IsAbsent c es → instance_of es c ≡ None
absent-instance_of c [] h = refl
absent-instance_of c (e ∷ es) h = ap (λ b. cond b (Some e) (instance_of es c)) (nat_ne e.client c h.0) ∙ absent-instance_of c es h.1

pub none-absent : (c : ℕ) (es : List Instance) → instance_of es c ≡ None → IsAbsent c es
none-absent c [] h = tt
none-absent c (e ∷ es) h = by (cases_Bool (nat_eq e.client c)) (none-absent c es)
  where
    some : Some e ≡ None → ⊥
    some absent = cc

    other : nat_eq e.client c ≡ false → e.client ≢ c
    other f same = absurd (false≢true (sym f ∙ eq-eqb e.client c same))

    by : (nat_eq e.client c ≡ true) ⊎ (nat_eq e.client c ≡ false) → (instance_of es c ≡ None → IsAbsent c es) → IsAbsent c (e ∷ es)
    by (inl t) rest = absurd (some (subst (λ b. cond b (Some e) (instance_of es c) ≡ None) t h))
    by (inr f) rest = (other f, rest (subst (λ b. cond b (Some e) (instance_of es c) ≡ None) f h))

pub place-instance_of : (c i : ℕ) (es : List Instance) (d : Instance) → IsPlace c i es → instance_of es c ≡ Some (get_or es i d)
place-instance_of c i [] d h = absurd h
place-instance_of c zero (e ∷ es) d h = ap (λ b. cond b (Some e) (instance_of es c)) (eq-eqb e.client c h)
place-instance_of c (suc i) (e ∷ es) d h = ap (λ b. cond b (Some e) (instance_of es c)) (nat_ne e.client c h.0)
    ∙ place-instance_of c i es d h.1

pub place-below : (c i : ℕ) (es : List Instance) → IsPlace c i es → i < length es
place-below c i [] h = absurd h
place-below c zero (e ∷ es) h = omega arith
place-below c (suc i) (e ∷ es) h = let b = place-below c i es h.1 in omega arith

pub place-client : (c i : ℕ) (es : List Instance) (d : Instance) → IsPlace c i es → (get_or es i d).client ≡ c
place-client c i [] d h = absurd h
place-client c zero (e ∷ es) d h = h
place-client c (suc i) (e ∷ es) d h = place-client c i es d h.1

-- a client without an instance changes none
pub absent-at_client : (c : ℕ) (f : Instance → Instance) (es : List Instance) → IsAbsent c es → at_client c f es ≡ es
absent-at_client c f [] h = refl
absent-at_client c f (e ∷ es) h = ap (λ b. cond b (f e) e ∷ at_client c f es) (nat_ne e.client c h.0)
    ∙ ap (λ xs. e ∷ xs) (absent-at_client c f es h.1)

-- a change of the client's instance is one at its place
pub place-at_client : (c : ℕ) (f : Instance → Instance) (i : ℕ) (es : List Instance) (d : Instance) → IsPlace c i es →
    AreRising (clients_of es) → at_client c f es ≡ set es i (f (get_or es i d))
place-at_client c f i [] d h a = absurd h
place-at_client c f zero (e ∷ es) d h a =
    ap (λ b. cond b (f e) e ∷ at_client c f es) (eq-eqb e.client c h)
    ∙ ap (λ xs. f e ∷ xs) (absent-at_client c f es (subst (λ n. IsAbsent n es) h (above-absent e.client es a.0)))
place-at_client c f (suc i) (e ∷ es) d h a = ap (λ b. cond b (f e) e ∷ at_client c f es) (nat_ne e.client c h.0)
    ∙ ap (λ xs. e ∷ xs) (place-at_client c f i es d h.1 a.1)

absent-filter : (c : ℕ) (es : List Instance) → IsAbsent c es → filter (λ e. not (nat_eq e.client c)) es ≡ es
absent-filter c [] h = refl
absent-filter c (e ∷ es) h = ap (λ b. cond (not b) (e ∷ filter (λ x. not (nat_eq x.client c)) es)
    (filter (λ x. not (nat_eq x.client c)) es)) (nat_ne e.client c h.0) ∙ ap (λ xs. e ∷ xs) (absent-filter c es h.1)

-- without its instance
pub place-filter : (c i : ℕ) (es : List Instance) → IsPlace c i es → AreRising (clients_of es) →
    filter (λ e. not (nat_eq e.client c)) es ≡ remove es i
place-filter c i [] h a = absurd h
place-filter c zero (e ∷ es) h a =
    ap (λ b. cond (not b) (e ∷ filter (λ x. not (nat_eq x.client c)) es) (filter (λ x. not (nat_eq x.client c)) es)) (eq-eqb e.client c h)
    ∙ absent-filter c es (subst (λ n. IsAbsent n es) h (above-absent e.client es a.0))
place-filter c (suc i) (e ∷ es) h a =
    ap (λ b. cond (not b) (e ∷ filter (λ x. not (nat_eq x.client c)) es) (filter (λ x. not (nat_eq x.client c)) es)) (nat_ne e.client c h.0)
    ∙ ap (λ xs. e ∷ xs) (place-filter c i es h.1 a.1)

above-remove : (c i : ℕ) (es : List Instance) → AllByRecursion (λ d. c < d) (clients_of es) →
    AllByRecursion (λ d. c < d) (clients_of (remove es i))
above-remove c zero [] h = tt
above-remove c (suc i) [] h = tt
above-remove c zero (e ∷ es) h = h.1
above-remove c (suc i) (e ∷ es) h = (h.0, above-remove c i es h.1)

pub rising-remove : (i : ℕ) (es : List Instance) → AreRising (clients_of es) → AreRising (clients_of (remove es i))
rising-remove zero [] a = tt
rising-remove (suc i) [] a = tt
rising-remove zero (e ∷ es) a = a.1
rising-remove (suc i) (e ∷ es) a = (above-remove e.client i es a.0, rising-remove i es a.1)

-- an instance of the same client in place of another
pub clients-set : (i : ℕ) (es : List Instance) (d y : Instance) → y.client ≡ (get_or es i d).client →
    clients_of (set es i y) ≡ clients_of es
clients-set i [] d y s = refl
clients-set zero (e ∷ es) d y s = ap (λ c. c ∷ clients_of es) s
clients-set (suc i) (e ∷ es) d y s = ap (λ cs. e.client ∷ cs) (clients-set i es d y s)

above-push : (c : ℕ) (es : List Instance) (y : Instance) → AllByRecursion (λ d. c < d) (clients_of es) → c < y.client →
    AllByRecursion (λ d. c < d) (clients_of (es ++ y ∷ []))
above-push c [] y h b = (b, tt)
above-push c (e ∷ es) y h b = (h.0, above-push c es y h.1 b)

-- a client whose number is above all others
pub rising-push : (es : List Instance) (y : Instance) → AreRising (clients_of es) →
    AllByRecursion (λ (e : Instance). e.client < y.client) es → AreRising (clients_of (es ++ y ∷ []))
rising-push [] y a h = (tt, tt)
rising-push (e ∷ es) y a h = (above-push e.client es y a.0 h.0, rising-push es y a.1 h.1)

above-get_or : (c i : ℕ) (es : List Instance) (d : Instance) → AllByRecursion (λ k. c < k) (clients_of es) → i < length es →
    c < (get_or es i d).client
above-get_or c i [] d h b = absurd (omega arith)
above-get_or c zero (e ∷ es) d h b = h.0
above-get_or c (suc i) (e ∷ es) d h b = let n : i < length es = omega arith in above-get_or c i es d h.1 n

-- where the client of an instance stands
pub place-from : (c i : ℕ) (es : List Instance) (d : Instance) → AreRising (clients_of es) → i < length es → (get_or es i d).client ≡ c →
    IsPlace c i es
place-from c i [] d a b is = absurd (omega arith)
place-from c zero (e ∷ es) d a b is = is
place-from c (suc i) (e ∷ es) d a b is =
    let n : i < length es = omega arith in
    let above = above-get_or e.client i es d a.0 n in
    ((λ same. omega arith), place-from c i es d a.1 n is)

-- the numbers rise along the instances
rising-le : (es : List Instance) → AreRising (clients_of es) → (i j : ℕ) (d : Instance) → i ≤ j → j < length es →
    (get_or es i d).client ≤ (get_or es j d).client
rising-le [] a i j d le b = absurd (omega arith)
rising-le (e ∷ es) a zero zero d le b = omega arith
rising-le (e ∷ es) a zero (suc j) d le b = let n : j < length es = omega arith in let above = above-get_or e.client j es d a.0 n in
    omega arith
rising-le (e ∷ es) a (suc i) zero d le b = absurd (omega arith)
rising-le (e ∷ es) a (suc i) (suc j) d le b = let n : j < length es = omega arith in let m : i ≤ j = omega arith in
    rising-le es a.1 i j d m n

absent-from : (c : ℕ) (es : List Instance) → ((k : ℕ) (d : Instance) → k < length es → (get_or es k d).client ≢ c) → IsAbsent c es
absent-from c [] h = tt
absent-from c (e ∷ es) h = (h 0 e (omega arith), absent-from c es (λ k d b. h (suc k) d (omega arith)))

module _ (es : List Instance) (rising : AreRising (clients_of es)) (c : ℕ) where
  -- the comparisons with a client's number rise along the instances, as a binary search asks
  comparisons-rise : IsNonDecreasingBy (λ (e : Instance). ordering_index (nat_cmp e.client c)) es
  comparisons-rise i j d le b = let up = rising-le es rising i j d le b in grind (arith, nat_tests)

  -- a binary search by client ends at the client's instance, or tells that there is none
  pub searched : (r : Result ℕ ℕ) → IsSearchInRange r (length es) → IsBinarySearchResult (λ (e : Instance). nat_cmp e.client c) es r →
      MatchResult r (λ i. IsPlace c i es) (λ i. instance_of es c ≡ None)
  searched (Ok i) in_range equal =
      let d : Instance = record { client = 0; tags = []; watches = []; armed = 0; queue = [] } in
      place-from c i es d rising in_range (ranked _ c _ (sym (equal d)))
  searched (Err i) in_range parted = absent-instance_of c es (absent-from c es none)
    where
      none : (k : ℕ) (d : Instance) → k < length es → (get_or es k d).client ≢ c
      none k d b same = elim (cases_lt k i) [
        | inl lt ↦ let less = ranked _ c _ (sym ((parted comparisons-rise).0 k d (omega arith) lt)) in omega arith
        | inr le ↦ let more = ranked _ c _ (sym ((parted comparisons-rise).1 k d le b)) in omega arith
      ]

-- arming changes no client
pub armed-client : (slot mask : ℕ) (d : NodeId) (e : Instance) → (armed_on slot (Some d) mask e).client ≡ e.client
armed-client slot mask d e = by (is_some (watch_on e.watches (Some d)))
  where
    by : (b : Bool) → (cond b (record e { watches = map (λ w. cond (same_id d w.node) (re_mask mask w) w) e.watches })
        (record e {
          armed = e.armed + 1;
          watches = e.watches ++ record {
            number = e.armed + 1;
            slot = slot;
            node = d;
            mask = bit_and mask EVENTS;
            once = has_bit mask ONESHOT;
          } ∷ [];
        })).client ≡ e.client
    by true = refl
    by false = refl
