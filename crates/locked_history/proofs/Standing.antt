-- What notes that agree say of a history.
use Rattle.std.proofs.Common.{◌≡◌, ℕ, zero, suc, ◌+◌, ◌<◌, ◌≤◌, Bool, true, false, List, [], ◌∷◌, ◌++◌, Option, None, Some, refl, sym, ap, subst, ◌∙◌, length, map, take, drop, set, get_or, cond, count_by, All, add-one, arith}
use Rattle.std.proofs.lemmas.List.{take_more, get_or-drop, get_or-take, get_or-map, set-get_or, length-map}
use Rattle.std.proofs.lemmas.List.Elements.{All-append}
use Rattle.std.proofs.lemmas.List.Sums.{sum_by-append}
use Rattle.std.proofs.Common.{ap₂, is_some}
use Rattle.std.specs.Prelude.{slice_get, IfSome}
use Rattle.locked_history.specs.declared.entry.Entry.{Entry}
use Rattle.std.specs.List.{SwappedAt}
use Rattle.std.proofs.lemmas.Bool.{lt-ltb, le-ltb}
use Rattle.std.proofs.lemmas.List.Filters.{FiltersInPlace, FiltersInPlace-more_swap, FiltersInPlace-more_no}
use Rattle.locked_history.specs.Claims.{Claim, uncounted, is_past_end, StandsIn}
use Rattle.locked_history.specs.Entries.{entry_in}

agreed : (o : Option Entry) (e : Entry) → o ≡ Some (entry_in o) → IfSome o (λ y. y ≡ e) → entry_in o ≡ e
agreed None e k h = absurd (cc)
agreed (Some y) e k h = h

-- a place of which some note knows the entry
pub stands_at : {A : Type 0} (known : A → Option Entry) (xs : List A) (i : ℕ) (a : A) (e : Entry) → map known xs ≡ map (λ (x : Entry). Some x) (map (λ (n : A). entry_in (known n)) xs) → i < length xs → a ≡ get_or xs i a → IfSome (known a) (λ y. y ≡ e) → slice_get (map (λ (n : A). entry_in (known n)) xs) i ≡ Some e
stands_at known [] i a e k lt at h = absurd (omega arith)
stands_at known (x ∷ xs) zero a e k lt at h = ap (λ (y : Entry). Some y) (agreed (known x) e (cc) (subst (λ n. IfSome (known n) (λ y. y ≡ e)) at h))
stands_at known (x ∷ xs) (suc i) a e k lt at h = stands_at known xs i a e (cc) (omega arith) at h

-- a pass over a list that changes each element by f
pub at_mid : {A : Type 0} (f : A → A) (xs : List A) (i : ℕ) (d : A) → i < length xs → get_or (map f (take i xs) ++ drop i xs) i d ≡ get_or xs i d
at_mid f [] i d lt = absurd (omega arith)
at_mid f (x ∷ xs) zero d lt = refl
at_mid f (x ∷ xs) (suc i) d lt = at_mid f xs i d (omega arith)

pub set_mid : {A : Type 0} (f : A → A) (xs : List A) (i : ℕ) (y d : A) → i < length xs → y ≡ f (get_or xs i d) → set (map f (take i xs) ++ drop i xs) i y ≡ map f (take (suc i) xs) ++ drop (suc i) xs
set_mid f [] i y d lt e = absurd (omega arith)
set_mid f (x ∷ xs) zero y d lt e = ap (λ z. z ∷ xs) e
set_mid f (x ∷ xs) (suc i) y d lt e = ap (λ zs. f x ∷ zs) (set_mid f xs i y d (omega arith) e)

pub changed : {A : Type 0} (f : A → A) (xs ys : List A) (i : ℕ) (x y : A) → i < length xs → ys ≡ map f (take i xs) ++ drop i xs → x ≡ get_or ys i x → y ≡ f x → set ys i y ≡ map f (take (i + 1) xs) ++ drop (i + 1) xs
changed f xs ys i x y lt is at e =
    let here : x ≡ get_or xs i x = at ∙ ap (λ l. get_or l i x) is ∙ at_mid f xs i x lt in
    rw (is, add-one) (set_mid f xs i y x lt (e ∙ ap f here))

-- and counts those that have p
pub counted_more : {A : Type 0} (f : A → A) (p : A → Bool) (xs ys : List A) (i : ℕ) (x : A) (n m : ℕ) → i < length xs → ys ≡ map f (take i xs) ++ drop i xs → x ≡ get_or ys i x → n ≡ count_by p (take i xs) → m ≡ n + cond (p x) 1 0 → m ≡ count_by p (take (i + 1) xs)
counted_more f p xs ys i x n m lt is at e k =
    let here : x ≡ get_or xs i x = at ∙ ap (λ l. get_or l i x) is ∙ at_mid f xs i x lt in
    let s = sum_by-append (λ z. cond (p z) 1 0) (take i xs) (x ∷ []) in
    rw (take_more xs i x lt, ← here) (omega arith)

one_all : {A : Type 0} (P : A → Type 0) (x : A) → P x → All P (x ∷ [])
one_all P x p = λ k d lt. one_at P x p k d lt
  where
    one_at : {A : Type 0} (P : A → Type 0) (x : A) → P x → (k : ℕ) (d : A) → k < length (x ∷ []) → P (get_or (x ∷ []) k d)
    one_at P x p zero d lt = p
    one_at P x p (suc k) d lt = absurd (omega arith)

pub all_more : {A : Type 0} (P : A → Type 0) (xs : List A) (i : ℕ) (x : A) → i < length xs → x ≡ get_or xs i x → All P (take i xs) → P x → All P (take (i + 1) xs)
all_more P xs i x lt here a p = rw (take_more xs i x lt, ← here) (All-append P (take i xs) (x ∷ []) a (one_all P x p))

pub same_at : {A : Type 0} (xs ys : List A) (i : ℕ) (d : A) → drop i ys ≡ drop i xs → get_or ys i d ≡ get_or xs i d
same_at xs ys i d e =
    let a : get_or (drop i ys) 0 d ≡ get_or ys (i + 0) d = get_or-drop i ys 0 d in
    let b : get_or (drop i xs) 0 d ≡ get_or xs (i + 0) d = get_or-drop i xs 0 d in
    let z : i + 0 ≡ i = omega arith in
    sym (rw z at a) ∙ ap (λ l. get_or l 0 d) e ∙ (rw z at b)

pub set_here : {A : Type 0} (xs : List A) (i : ℕ) (x : A) → x ≡ get_or xs i x → set xs i x ≡ xs
set_here xs i x e = ap (set xs i) e ∙ set-get_or xs i x

pub same_read : {A : Type 0} (xs : List A) (i : ℕ) (x y : A) → i < length xs → x ≡ get_or xs i x → y ≡ get_or xs i y → y ≡ x
same_read [] i x y lt a b = absurd (omega arith)
same_read (z ∷ zs) zero x y lt a b = b ∙ sym a
same_read (z ∷ zs) (suc i) x y lt a b = same_read zs i x y (omega arith) a b

-- a step of the pass that leaves the receipts past the end: a receipt in the history
pub within_more : {xs ys : List Claim} {k i : ℕ} (entries : List Entry) (x y z : Claim) → FiltersInPlace (is_past_end entries) xs ys k i → All (StandsIn entries) (take i xs) → i < length ys → x ≡ get_or ys i x → y ≡ get_or ys i y → z ≡ y → x.place < length entries → slice_get entries y.place ≡ Some y.entry → FiltersInPlace (is_past_end entries) xs (set ys i z) k (i + 1) × All (StandsIn entries) (take (i + 1) xs)
within_more {xs} {ys} {k} {i} entries x y z f a lt ax ay zy in_it stands =
    let yx : y ≡ x = same_read ys i x y lt ax ay in
    let same : set ys i z ≡ ys = ap (set ys i) zy ∙ set_here ys i y ay in
    let out : is_past_end entries x ≡ false = rw (lt-ltb _ _ in_it) refl in
    let lx : i < length xs = omega (arith, f.long) in
    let s : slice_get entries x.place ≡ Some x.entry = subst (λ (c : Claim). slice_get entries c.place ≡ Some c.entry) yx stands in
    (rw same (FiltersInPlace-more_no f lt out ax), all_more (StandsIn entries) xs i x lx (ax ∙ same_at xs ys i x f.rest) a (λ _. s))

-- and one past its end
pub past_more : {xs ys zs : List Claim} {k i : ℕ} (entries : List Entry) (x : Claim) → FiltersInPlace (is_past_end entries) xs ys k i → All (StandsIn entries) (take i xs) → i < length ys → x ≡ get_or ys i x → length entries ≤ x.place → SwappedAt ys zs k i → FiltersInPlace (is_past_end entries) xs zs (k + 1) (i + 1) × All (StandsIn entries) (take (i + 1) xs)
past_more {xs} {ys} {zs} {k} {i} entries x f a lt ax far swapped =
    let out : is_past_end entries x ≡ true = rw (le-ltb _ _ far) refl in
    let lx : i < length xs = omega (arith, f.long) in
    (FiltersInPlace-more_swap f lt out ax swapped, all_more (StandsIn entries) xs i x lx (ax ∙ same_at xs ys i x f.rest) a (λ q. absurd (omega arith)))

pub cell_at : {A : Type 0} (cell : A → ℕ) (xs : List A) (cells : List ℕ) (n i : ℕ) (a : A) → map cell xs ≡ take n cells → length xs ≡ n → i < n → a ≡ get_or xs i a → cell a ≡ get_or cells i 0
cell_at cell xs cells n i a e long lt at =
    let l : i < length xs = omega arith in
    ap cell at ∙ sym (get_or-map cell xs i a 0 l) ∙ ap (λ l. get_or l i 0) e ∙ get_or-take n cells i 0 lt

pub known_at : {A : Type 0} (known : A → Option Entry) (xs : List A) (i : ℕ) (a : A) → map known xs ≡ map (λ (x : Entry). Some x) (map (λ (n : A). entry_in (known n)) xs) → i < length xs → a ≡ get_or xs i a → known a ≡ Some (entry_in (known a))
known_at known [] i a k lt at = absurd (omega arith)
known_at known (x ∷ xs) zero a k lt at = let head : known x ≡ Some (entry_in (known x)) = cc in subst (λ y. known y ≡ Some (entry_in (known y))) (sym at) head
known_at known (x ∷ xs) (suc i) a k lt at = known_at known xs i a (cc) (omega arith) at

pub entry_at : {A : Type 0} (f : A → Entry) (xs : List A) (i : ℕ) (a : A) → i < length xs → a ≡ get_or xs i a → slice_get (map f xs) i ≡ Some (f a)
entry_at f [] i a lt at = absurd (omega arith)
entry_at f (x ∷ xs) zero a lt at = ap (λ y. Some (f y)) (sym at)
entry_at f (x ∷ xs) (suc i) a lt at = entry_at f xs i a (omega arith) at

pub stand_back : (es : List Entry) (rs : List Claim) → All (StandsIn es) (map uncounted rs) → All (StandsIn es) rs
stand_back es rs a = λ k d lt. let l : k < length (map uncounted rs) = omega (arith, length-map rs uncounted) in subst (StandsIn es) (get_or-map uncounted rs k d (uncounted d) lt) (a k (uncounted d) l)

-- notes that know something each know their entries
some_is : (o : Option Entry) → is_some o ≡ true → o ≡ Some (entry_in o)
some_is None e = absurd (cc)
some_is (Some y) e = refl

pub all_some : {A : Type 0} (known : A → Option Entry) (xs : List A) → map (λ (x : A). is_some (known x)) xs ≡ map (λ (x : A). true) xs → map known xs ≡ map (λ (e : Entry). Some e) (map (λ (x : A). entry_in (known x)) xs)
all_some known [] e = refl
all_some known (x ∷ xs) e =
    let head : is_some (known x) ≡ true = cc in
    let tail : map (λ (y : _). is_some (known y)) xs ≡ map (λ (y : _). true) xs = cc in
    ap₂ (λ o os. o ∷ os) (some_is (known x) head) (all_some known xs tail)
