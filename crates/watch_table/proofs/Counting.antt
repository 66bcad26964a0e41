-- How many clients watch an object, as the index has them.
use Rattle.std.proofs.Common.{◌≡◌, ℕ, ◌<◌, Bool, true, false, cond, ◌||◌, List, [], ◌∷◌, Some, arith, length, map, filter, refl, sym, ap, ◌∙◌, nat_eq, eqb-true, eq-eqb}
use Rattle.std.specs.List.{AllByRecursion, IsDistinct, count_by, list_any}
use Rattle.std.proofs.lemmas.Bool.{false≢true}
use Rattle.std.proofs.lemmas.Cmp.{nat_eq_equiv}
use Rattle.std.proofs.lemmas.List.{length-map}
use Rattle.std.proofs.lemmas.List.Sums.{length-filter}
use Rattle.std.proofs.lemmas.Map.Keys.{IsDistinct-cons}
use Rattle.std.proofs.lemmas.Map.Made.{length-from_same_keys}
use Rattle.plain_model.specs.Watching.{Instance}
use Rattle.plain_model.specs.Machine.{instance_of, watches_of}
use Rattle.watch_table.specs.Clients.{clients_of, AreRising, watches}
use Rattle.watch_table.specs.Listening.{is_on}
use Rattle.watch_table.specs.Watched.{Watched, watchers_of, IsIndexOf}
use Rattle.watch_table.proofs.Clients.{nat_ne, above-absent, absent-instance_of}
use Rattle.watch_table.proofs.Keys.{distinct_none, distinct_filter}

-- whether an instance has a watch on the object of a number
abbrev on : ℕ → Instance → Bool
on n e = is_on n e.watches

-- the clients that watch an object, in the order of their instances
abbrev watching : ℕ → List Instance → List ℕ
watching n es = map {A = Instance} (λ e. e.client) (filter (on n) es)

-- numbers that are all above one are not it
above-differ : (c : ℕ) (ks : List ℕ) → AllByRecursion (λ d. c < d) ks → AllByRecursion (λ d. nat_eq c d ≡ false) ks
above-differ c [] h = tt
above-differ c (k ∷ ks) h = (nat_ne c k (λ same. let above = h.0 in omega arith), above-differ c ks h.1)

-- numbers that rise differ
rising-distinct : (es : List Instance) → AreRising (clients_of es) → IsDistinct nat_eq (clients_of es)
rising-distinct [] h = distinct_none nat_eq (λ (k : ℕ). k)
rising-distinct (e ∷ es) h =
    IsDistinct-cons nat_eq e.client (clients_of es) (above-differ e.client (clients_of es) h.0) (rising-distinct es h.1)

-- a client is among them exactly where it watches the object
watching-has : (n c : ℕ) (es : List Instance) → AreRising (clients_of es) → list_any (nat_eq c) (watching n es) ≡ watches es n c
watching-has n c [] h = refl
watching-has n c (e ∷ es) h = by (on n e) (nat_eq e.client c) refl refl (watching-has n c es h.1)
  where
    rest : List Instance
    rest = filter (on n) es

    gone : nat_eq e.client c ≡ true → watches es n c ≡ false
    gone q = ap (λ k. watches es n k) (sym (eqb-true e.client c q))
        ∙ ap (λ o. is_on n (watches_of o)) (absent-instance_of e.client es (above-absent e.client es h.0))

    by : (a b : Bool) → on n e ≡ a → nat_eq e.client c ≡ b → list_any (nat_eq c) (watching n es) ≡ watches es n c →
        list_any (nat_eq c) (map {A = Instance} (λ f. f.client) (cond a (e ∷ rest) rest))
        ≡ is_on n (watches_of (cond b (Some e) (instance_of es c)))
    by true true is q more = ap (λ b. b || list_any (nat_eq c) (watching n es)) (eq-eqb c e.client (sym (eqb-true e.client c q))) ∙ sym is
    by true false is q more = ap (λ b. b || list_any (nat_eq c) (watching n es))
        (nat_ne c e.client (λ same. false≢true (sym q ∙ eq-eqb e.client c (sym same)))) ∙ more
    by false true is q more = more ∙ gone q ∙ sym is
    by false false is q more = more

-- the index has as many clients for an object as watch it
pub index-counts : (es : List Instance) (t : Watched) (n : ℕ) → IsIndexOf es t → AreRising (clients_of es) →
    length (watchers_of t n) ≡ count_by (λ (e : Instance). is_on n e.watches) es
index-counts es t n h rising =
    length-from_same_keys nat_eq_equiv (watchers_of t n) (watching n es) (h.once n)
    (distinct_filter nat_eq (λ (e : Instance). e.client) (on n) es (rising-distinct es rising))
    (λ c. h.exact n c ∙ sym (watching-has n c es rising))
    ∙ length-map (filter (on n) es) (λ e. e.client) ∙ length-filter (on n) es
