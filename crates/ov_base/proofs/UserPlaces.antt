-- Where a name stands among user attributes.
use Rattle.std.proofs.Common.{◌≡◌, ℕ, suc, ◌+◌, ◌++◌, List, [], ◌∷◌, length, Bool, true, false, not, cond, Option, Some, None, nat_lt, position, slice_index_or, slice_set, refl, sym, ap, ◌∙◌, arith}
use Rattle.std.specs.Prelude.{option_map}
use Rattle.std.specs.List.{position_or_len}
use Rattle.std.specs.Str.{bytes_eq}
use Rattle.std.proofs.lemmas.Bool.{lt-ltb}
use Rattle.std.proofs.Math.Dec.{leb-suc-suc}
use Rattle.std.proofs.lemmas.Slice.Eq.{bytes_eq-Decides}
use Rattle.ov_base.specs.UserValues.{value_of, set_value}

abbrev pub is_named : List ℕ → List ℕ × List ℕ → Bool
is_named n x = bytes_eq x.0 n

-- the first place is found at once, or later by one
position-cons : {X : Type 0} (p : X → Bool) (x : X) (xs : List X) → position p (x ∷ xs) ≡ cond (p x) (Some 0) (option_map (λ k. suc k) (position p xs))
position-cons p x xs = of (p x)
  where
    some_later : (b : Bool) (k : ℕ) → cond b (Some (suc k)) None ≡ option_map (λ j. suc j) (cond b (Some k) None)
    some_later true k = refl
    some_later false k = refl

    later : (a b l : ℕ) → suc a ≡ b → cond (nat_lt b (suc l)) (Some b) None ≡ option_map (λ j. suc j) (cond (nat_lt a l) (Some a) None)
    later a b l e = ap (λ k. cond (nat_lt k (suc l)) (Some k) None) (sym e) ∙ ap (λ b. cond b (Some (suc a)) None) (leb-suc-suc (suc a) l) ∙ some_later (nat_lt a l) a

    of : (b : Bool) → cond (nat_lt (cond (not b) (1 + position_or_len p xs) 0) (length (x ∷ xs))) (Some (cond (not b) (1 + position_or_len p xs) 0)) None ≡ cond b (Some 0) (option_map (λ k. suc k) (position p xs))
    of true = ap (λ b. cond b (Some 0) None) (lt-ltb 0 (length (x ∷ xs)) (omega arith))
    of false = later (position_or_len p xs) (1 + position_or_len p xs) (length xs) (omega arith)

-- a later place is one past a place among the others
one_past : (o : Option ℕ) (k : ℕ) → option_map (λ j. suc j) o ≡ Some k → (j : ℕ) × (o ≡ Some j) × (k ≡ suc j)
one_past None k e = absurd (cc)
one_past (Some j) k e = (j, refl, cc)

none_past : (o : Option ℕ) → option_map (λ j. suc j) o ≡ None → o ≡ None
none_past None e = refl
none_past (Some j) e = absurd (cc)

-- the value of a name is that at its place
pub value-found : (xs : List (List ℕ × List ℕ)) (n : List ℕ) (k : ℕ) (d : List ℕ × List ℕ) → position (is_named n) xs ≡ Some k → value_of xs n ≡ Some (slice_index_or xs k d).1
value-found [] n k d e = absurd (cc)
value-found (x ∷ xs) n k d e = of (λ j f. value-found xs n j d f) (bytes_eq x.0 n) (sym (position-cons (is_named n) x xs) ∙ e)
  where
    of : ((j : ℕ) → position (is_named n) xs ≡ Some j → value_of xs n ≡ Some (slice_index_or xs j d).1) → (b : Bool) → cond b (Some 0) (option_map (λ j. suc j) (position (is_named n) xs)) ≡ Some k → cond b (Some x.1) (value_of xs n) ≡ Some (slice_index_or (x ∷ xs) k d).1
    of rest true f =
        let here : 0 ≡ k = cc in
        ap (λ (i : ℕ). Some (slice_index_or (x ∷ xs) i d).1) here
    of rest false f =
        let past = one_past _ _ f in
        rest past.0 past.1 ∙ ap (λ (i : ℕ). Some (slice_index_or (x ∷ xs) i d).1) (sym past.2)

-- a name that isn't there has no value
pub value-absent : (xs : List (List ℕ × List ℕ)) (n : List ℕ) → position (is_named n) xs ≡ None → value_of xs n ≡ None
value-absent [] n e = refl
value-absent (x ∷ xs) n e = of (value-absent xs n) (bytes_eq x.0 n) (sym (position-cons (is_named n) x xs) ∙ e)
  where
    of : (position (is_named n) xs ≡ None → value_of xs n ≡ None) → (b : Bool) → cond b (Some 0) (option_map (λ j. suc j) (position (is_named n) xs)) ≡ None → cond b (Some x.1) (value_of xs n) ≡ None
    of rest true f = absurd (cc)
    of rest false f = rest (none_past _ f)

-- a name that is there keeps its place
pub set-found : (xs : List (List ℕ × List ℕ)) (n v : List ℕ) (k : ℕ) (e : List ℕ × List ℕ) → position (is_named n) xs ≡ Some k → e ≡ slice_index_or xs k e → slice_set xs k (e.0, v) ≡ set_value xs n v
set-found [] n v k e found at = absurd (cc)
set-found (x ∷ xs) n v k e found at = of (λ j f g. set-found xs n v j e f g) (bytes_eq x.0 n) refl (sym (position-cons (is_named n) x xs) ∙ found)
  where
    of : ((j : ℕ) → position (is_named n) xs ≡ Some j → e ≡ slice_index_or xs j e → slice_set xs j (e.0, v) ≡ set_value xs n v) → (b : Bool) → bytes_eq x.0 n ≡ b → cond b (Some 0) (option_map (λ j. suc j) (position (is_named n) xs)) ≡ Some k → slice_set (x ∷ xs) k (e.0, v) ≡ cond b ((n, v) ∷ xs) (x ∷ set_value xs n v)
    of rest true is f =
        let here : 0 ≡ k = cc in
        let same : e ≡ x = at ∙ ap (λ (i : ℕ). slice_index_or (x ∷ xs) i e) (sym here) in
        let name : e.0 ≡ n = ap (λ (y : List ℕ × List ℕ). y.0) same ∙ (bytes_eq-Decides x.0 n).0 is in
        ap (λ (i : ℕ). slice_set (x ∷ xs) i (e.0, v)) (sym here) ∙ ap (λ (m : List ℕ). (m, v) ∷ xs) name
    of rest false is f =
        let past = one_past _ _ f in
        ap (λ (i : ℕ). slice_set (x ∷ xs) i (e.0, v)) past.2
        ∙ ap (λ ys. x ∷ ys) (rest past.0 past.1 (at ∙ ap (λ (i : ℕ). slice_index_or (x ∷ xs) i e) past.2))

-- a new name goes last
pub set-absent : (xs : List (List ℕ × List ℕ)) (n v : List ℕ) → position (is_named n) xs ≡ None → xs ++ (n, v) ∷ [] ≡ set_value xs n v
set-absent [] n v e = refl
set-absent (x ∷ xs) n v e = of (set-absent xs n v) (bytes_eq x.0 n) (sym (position-cons (is_named n) x xs) ∙ e)
  where
    of : (position (is_named n) xs ≡ None → xs ++ (n, v) ∷ [] ≡ set_value xs n v) → (b : Bool) → cond b (Some 0) (option_map (λ j. suc j) (position (is_named n) xs)) ≡ None → (x ∷ xs) ++ (n, v) ∷ [] ≡ cond b ((n, v) ∷ xs) (x ∷ set_value xs n v)
    of rest true f = absurd (cc)
    of rest false f = ap (λ ys. x ∷ ys) (rest (none_past _ f))
