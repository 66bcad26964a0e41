-- The attached clients, their descriptors and their instances, after calls.
use Rattle.std.proofs.Common.{◌≡◌, ℕ, suc, ◌+◌, ◌≤◌, Bool, true, false, not, cond, ◌||◌, List, [], ◌∷◌, ◌++◌, Option, None, Some, refl, sym, ap, subst, ◌∙◌, map, filter, nat_eq, length, is_some, bit_and, inl, inr, arith}
use Rattle.std.specs.List.{All, AllByRecursion, IsDistinct, list_any}
use Rattle.std.proofs.lemmas.Bool.{or_cases}
use Rattle.std.proofs.lemmas.Map.Keys.{IsDistinct-head, IsDistinct-tail, IsDistinct-cons}
use Rattle.std.proofs.lemmas.List.Elements.{All-from_recursion, recursion_from_All, All-map}
use Rattle.ov_base.specs.Calls.{Call}
use Rattle.ov_base.specs.declared.call.CallOf.TheVariants.{Open, Rename, Read, Write, Seek, ListNames, Close, Arm, TakeNotices}
use Rattle.ov_base.specs.declared.node_id.NodeId.{NodeId}
use Rattle.plain_model.specs.Tree.{same_id, node_at}
use Rattle.plain_model.specs.Watching.{EVENTS, ONESHOT, has_bit, Instance, Subject, Rule, AllHear, passed, all_passed}
use Rattle.plain_model.specs.Machine.{Table, State, DESCRIPTORS_MAX, look, same_found, watch_on}
use Rattle.plain_model.specs.Changes.{way_of, tables_after, re_mask, armed_on, at_client, instances_after}
use Rattle.plain_model.specs.Settling.{clients_of}
pub use Rattle.plain_model.specs.Instances.{hearers_of}
use Rattle.plain_model.proofs.Held.{IsFixed, fixed-with, fixed-ways}

-- either as before, or changed so that the fact stays
either : {B : Type 0} (f : Table → B) (b : Bool) (ks ls : List Table) → map f ls ≡ map f ks → map f (cond b ks ls) ≡ map f ks
either f true ks ls e = refl
either f false ks ls e = e

-- a fact of the tables that no change of their handles touches, after a call
pub call-fixed : {B : Type 0} (f : Table → B) → IsFixed f → (s : State) (c : ℕ) (call : Call) → map f (tables_after s c call) ≡ map f s.tables
call-fixed f fixed s c (Open p g mode) = fixed-with f fixed s.tables c _ _
call-fixed f fixed s c (Read fd n) = fixed-with f fixed s.tables c fd _
call-fixed f fixed s c (Write fd bytes) = either f (nat_eq (length bytes) 0) s.tables _ (fixed-with f fixed s.tables c fd _)
call-fixed f fixed s c (Seek fd offset whence) = fixed-with f fixed s.tables c fd _
call-fixed f fixed s c (ListNames fd n) = fixed-with f fixed s.tables c fd _
call-fixed f fixed s c (Close fd) = fixed-with f fixed s.tables c fd None
call-fixed f fixed s c (Rename old new) =
    either f (same_found (look s.tree old) (look s.tree new)) s.tables _ (fixed-ways f fixed s.tables (node_at s.tree old) (way_of s.tree old) (way_of s.tree new))
call-fixed f fixed s c _ = refl

-- a change of one client's instance
at-hearers : (c : ℕ) (f : Instance → Instance) → ((e : Instance) → (f e).client ≡ e.client) → (es : List Instance) → hearers_of (at_client c f es) ≡ hearers_of es
at-hearers c f same [] = refl
at-hearers c f same (e ∷ es) = λ i. by (nat_eq e.client c) i ∷ at-hearers c f same es i
  where
    by : (b : Bool) → (cond b (f e) e).client ≡ e.client
    by true = same e
    by false = refl

-- a watch is armed
armed-client : (slot : ℕ) (o : Option NodeId) (mask : ℕ) (e : Instance) → (armed_on slot o mask e).client ≡ e.client
armed-client slot None mask e = refl
armed-client slot (Some d) mask e = by (is_some (watch_on e.watches (Some d)))
  where
    by : (b : Bool) → (cond b (record e { watches = map (λ w. cond (same_id d w.node) (re_mask mask w) w) e.watches }) (record e { armed = e.armed + 1; watches = e.watches ++ record { number = e.armed + 1; slot = slot; node = d; mask = bit_and mask EVENTS; once = has_bit mask ONESHOT } ∷ [] })).client ≡ e.client
    by true = refl
    by false = refl

-- the instances after a call are those of the same clients
pub call-hearers : (s : State) (c : ℕ) (call : Call) → hearers_of (instances_after s c call) ≡ hearers_of s.instances
call-hearers s c (Arm slot p mask) = at-hearers c (armed_on slot (node_at s.tree p) mask) (armed-client slot (node_at s.tree p) mask) s.instances
call-hearers s c (TakeNotices n) = at-hearers c _ (λ e. refl) s.instances
call-hearers s c _ = refl

-- an instance stays its client's
passed-client : (ss : List Subject) (e : Instance) → (all_passed e ss).client ≡ e.client
passed-client [] e = refl
passed-client (s ∷ ss) e = passed-client ss (passed e s)

-- after subjects were heard
pub heard-hearers : (shows : Rule) (ss : List Subject) (es fs : List Instance) → AllHear shows ss es fs → hearers_of fs ≡ hearers_of es
heard-hearers shows ss [] [] h = refl
heard-hearers shows ss [] (f ∷ fs) h = absurd h
heard-hearers shows ss (e ∷ es) [] h = absurd h
heard-hearers shows ss (e ∷ es) (f ∷ fs) h = λ i. (ap (λ x. x.client) h.0.watches ∙ passed-client ss e) i ∷ heard-hearers shows ss es fs h.1 i

-- as many descriptors as before
abbrev pub size : Table → ℕ
size k = length k.handles

-- what is so of the numbers of descriptors is so of the tables
unmapped : (P : ℕ → Type 0) (ks : List Table) → AllByRecursion P (map size ks) → AllByRecursion (λ k. P (size k)) ks
unmapped P [] h = tt
unmapped P (k ∷ ks) h = (h.0, unmapped P ks h.1)

-- tables with as many descriptors as full ones are full
pub same-sizes : (ks ls : List Table) → map size ls ≡ map size ks → All (λ k. size k ≡ DESCRIPTORS_MAX) ks → All (λ k. size k ≡ DESCRIPTORS_MAX) ls
same-sizes ks ls e h =
    All-from_recursion (λ k. size k ≡ DESCRIPTORS_MAX) ls
    (unmapped (λ n. n ≡ DESCRIPTORS_MAX) ls
    (subst (AllByRecursion (λ n. n ≡ DESCRIPTORS_MAX)) (sym e)
    (recursion_from_All (λ n. n ≡ DESCRIPTORS_MAX) (map size ks) (All-map (λ n. n ≡ DESCRIPTORS_MAX) size ks h))))

-- numbers without one of them
abbrev pub but : ℕ → List ℕ → List ℕ
but c xs = filter (λ x. not (nat_eq x c)) xs

-- the numbers of all but some
pub filter-map : {A : Type 0} (f : A → ℕ) (c : ℕ) (xs : List A) → map f (filter (λ x. not (nat_eq (f x) c)) xs) ≡ but c (map f xs)
filter-map f c [] = refl
filter-map f c (x ∷ xs) = by (nat_eq (f x) c) (filter-map f c xs)
  where
    by : (b : Bool) → map f (filter (λ x. not (nat_eq (f x) c)) xs) ≡ but c (map f xs) → map f (cond (not b) (x ∷ filter (λ x. not (nat_eq (f x) c)) xs) (filter (λ x. not (nat_eq (f x) c)) xs)) ≡ cond (not b) (f x ∷ but c (map f xs)) (but c (map f xs))
    by true rest = rest
    by false rest = ap (λ z. f x ∷ z) rest

-- what is so of numbers is so without one of them
all-but : (P : ℕ → Type 0) (c : ℕ) (xs : List ℕ) → AllByRecursion P xs → AllByRecursion P (but c xs)
all-but P c [] h = tt
all-but P c (x ∷ xs) h = by (not (nat_eq x c)) (all-but P c xs h.1)
  where
    by : (b : Bool) → AllByRecursion P (but c xs) → AllByRecursion P (cond b (x ∷ but c xs) (but c xs))
    by true rest = (h.0, rest)
    by false rest = rest

-- numbers that differ still do
pub but-apart : (c : ℕ) (xs : List ℕ) → IsDistinct nat_eq xs → IsDistinct nat_eq (but c xs)
but-apart c [] h = h
but-apart c (x ∷ xs) h = by (not (nat_eq x c)) (but-apart c xs (IsDistinct-tail nat_eq x xs h))
  where
    by : (b : Bool) → IsDistinct nat_eq (but c xs) → IsDistinct nat_eq (cond b (x ∷ but c xs) (but c xs))
    by true rest = IsDistinct-cons nat_eq x (but c xs) (all-but (λ y. nat_eq x y ≡ false) c xs (IsDistinct-head nat_eq x xs h)) rest
    by false rest = rest

-- one of them was one before
pub but-member : (c y : ℕ) (xs : List ℕ) → list_any (λ x. nat_eq x y) (but c xs) ≡ true → list_any (λ x. nat_eq x y) xs ≡ true
but-member c y [] h = h
but-member c y (x ∷ xs) h = by (not (nat_eq x c)) (but-member c y xs) h
  where
    or-true : (a b : Bool) → b ≡ true → a || b ≡ true
    or-true true b h = refl
    or-true false b h = h

    by : (b : Bool) → (list_any (λ x. nat_eq x y) (but c xs) ≡ true → list_any (λ x. nat_eq x y) xs ≡ true) → list_any (λ x. nat_eq x y) (cond b (x ∷ but c xs) (but c xs)) ≡ true → nat_eq x y || list_any (λ x. nat_eq x y) xs ≡ true
    by true rest h = elim (or_cases (nat_eq x y) (list_any (λ x. nat_eq x y) (but c xs)) h) [
      | inl s ↦ ap (λ b. b || list_any (λ x. nat_eq x y) xs) s
      | inr m ↦ or-true (nat_eq x y) (list_any (λ x. nat_eq x y) xs) (rest m)
    ]
    by false rest h = or-true (nat_eq x y) (list_any (λ x. nat_eq x y) xs) (rest h)

-- there are no more of them
pub but-fewer : (c : ℕ) (xs : List ℕ) → length (but c xs) ≤ length xs
but-fewer c [] = omega arith
but-fewer c (x ∷ xs) = by (not (nat_eq x c)) (but-fewer c xs)
  where
    by : (b : Bool) → length (but c xs) ≤ length xs → length (cond b (x ∷ but c xs) (but c xs)) ≤ suc (length xs)
    by true rest = omega arith
    by false rest = omega arith

-- what is so of numbers and of one more is so of all
all-last : (P : ℕ → Type 0) (xs : List ℕ) (n : ℕ) → AllByRecursion P xs → P n → AllByRecursion P (xs ++ n ∷ [])
all-last P [] n h p = (p, tt)
all-last P (x ∷ xs) n h p = (h.0, all-last P xs n h.1 p)

-- numbers that differ, and one that none of them is
pub last-apart : (xs : List ℕ) (n : ℕ) → IsDistinct nat_eq xs → AllByRecursion (λ y. nat_eq y n ≡ false) xs → IsDistinct nat_eq (xs ++ n ∷ [])
last-apart [] n h new = IsDistinct-cons nat_eq n [] tt h
last-apart (x ∷ xs) n h new =
    IsDistinct-cons nat_eq x (xs ++ n ∷ [])
    (all-last (λ y. nat_eq x y ≡ false) xs n (IsDistinct-head nat_eq x xs h) new.0)
    (last-apart xs n (IsDistinct-tail nat_eq x xs h) new.1)

-- a number that is none of some
pub none-is : (xs : List ℕ) (n : ℕ) → (list_any (λ x. nat_eq x n) xs ≡ true → ⊥) → AllByRecursion (λ y. nat_eq y n ≡ false) xs
none-is [] n h = tt
none-is (x ∷ xs) n h = by (nat_eq x n) refl h (none-is xs n)
  where
    by : (b : Bool) → nat_eq x n ≡ b → (b || list_any (λ x. nat_eq x n) xs ≡ true → ⊥) → ((list_any (λ x. nat_eq x n) xs ≡ true → ⊥) → AllByRecursion (λ y. nat_eq y n ≡ false) xs) → (nat_eq x n ≡ false) × AllByRecursion (λ y. nat_eq y n ≡ false) xs
    by true e h rest = absurd (h refl)
    by false e h rest = (e, rest h)

-- a client is attached where its number is one of the tables'
pub attached-is : (c : ℕ) (ks : List Table) → list_any (λ k. nat_eq k.client c) ks ≡ list_any (λ x. nat_eq x c) (clients_of ks)
attached-is c [] = refl
attached-is c (k ∷ ks) = ap (λ b. nat_eq k.client c || b) (attached-is c ks)
