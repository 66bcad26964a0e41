-- The parts of some bytes, as they are taken one after the other.
use Rattle.std.proofs.Common.{◌≡◌, ℕ, ◌+◌, ◌-◌, ◌<◌, ◌≤◌, List, [], ◌∷◌, ◌++◌, length, get_or, take, drop, sum, arith, sym, ap, ◌∙◌}
use Rattle.std.proofs.lemmas.List.{append-nil, append_assoc, drop_all, drop_more}
use Rattle.std.proofs.lemmas.List.Sums.{sum_by-drop_more}
use Rattle.ov_embedded.specs.Mounting.{Fits, pieces_of}

-- one more part
taken : (lengths rest : List ℕ) (i n : ℕ) (blobs : List (List ℕ)) → i < length lengths →
    n ≡ get_or lengths i n →
    (blobs ++ (take n rest ∷ [])) ++ pieces_of (drop (i + 1) lengths) (drop n rest)
    ≡ blobs ++ pieces_of (drop i lengths) rest
taken lengths rest i n blobs within is =
    append_assoc blobs (take n rest ∷ []) (pieces_of (drop (i + 1) lengths) (drop n rest))
    ∙ ap (λ (ns : List ℕ). blobs ++ pieces_of ns rest)
    (sym (drop_more lengths i n within
    ∙ ap (λ (m : ℕ). m ∷ drop (i + 1) lengths) (sym is)))

pub pieces_more : (lengths rest after : List ℕ) (i n : ℕ) (blob : List ℕ)
    (blobs more whole : List (List ℕ)) → i < length lengths → n ≡ get_or lengths i n →
    blob ≡ take n rest → after ≡ drop n rest → more ≡ blobs ++ (blob ∷ []) →
    blobs ++ pieces_of (drop i lengths) rest ≡ whole →
    more ++ pieces_of (drop (i + 1) lengths) after ≡ whole
pieces_more lengths rest after i n blob blobs more whole within is part behind one so =
    ap (λ (bs : List (List ℕ)). bs ++ pieces_of (drop (i + 1) lengths) after)
    (one ∙ ap (λ (b : List ℕ). blobs ++ (b ∷ [])) part)
    ∙ ap (λ (r : List ℕ). (blobs ++ (take n rest ∷ [])) ++ pieces_of (drop (i + 1) lengths) r)
    behind
    ∙ taken lengths rest i n blobs within is ∙ so

-- all parts
pub pieces_all : (lengths rest : List ℕ) (i : ℕ) (blobs whole : List (List ℕ)) →
    length lengths ≤ i → blobs ++ pieces_of (drop i lengths) rest ≡ whole → blobs ≡ whole
pieces_all lengths rest i blobs whole past so =
    sym (ap (λ (ns : List ℕ). blobs ++ pieces_of ns rest) (drop_all i lengths past)
    ∙ append-nil blobs)
    ∙ so

-- the lengths of what is left, with all that was taken
pub sum_more : (lengths : List ℕ) (i n size rest after : ℕ) → i < length lengths →
    n ≡ get_or lengths i n → n ≤ rest → after ≡ rest - n →
    sum lengths + rest ≡ sum (drop i lengths) + size →
    sum lengths + after ≡ sum (drop (i + 1) lengths) + size
sum_more lengths i n size rest after within is fits behind so =
    let one : sum (drop i lengths) ≡ n + sum (drop (i + 1) lengths) =
    sum_by-drop_more (λ (x : ℕ). x) lengths i n within
    ∙ ap (λ (m : ℕ). m + sum (drop (i + 1) lengths)) (sym is) in
    omega (arith, one, fits, behind, so)

-- a part that is longer than the rest doesn't fit
pub too_long : (lengths bytes : List ℕ) (count i n rest : ℕ) → i < length lengths →
    n ≡ get_or lengths i n → rest < n →
    sum lengths + rest ≡ sum (drop i lengths) + length bytes → Fits lengths bytes count → ⊥
too_long lengths bytes count i n rest within is long so fits =
    let one : sum (drop i lengths) ≡ n + sum (drop (i + 1) lengths) =
    sum_by-drop_more (λ (x : ℕ). x) lengths i n within
    ∙ ap (λ (m : ℕ). m + sum (drop (i + 1) lengths)) (sym is) in
    let all : sum lengths ≡ length bytes = fits.1 in
    omega (arith, one, long, so, all)

-- where nothing is left they fit, and else they don't
pub sum_all : (lengths bytes : List ℕ) (i rest : ℕ) → length lengths ≤ i → rest ≡ 0 →
    sum lengths + rest ≡ sum (drop i lengths) + length bytes → sum lengths ≡ length bytes
sum_all lengths bytes i rest past none so =
    let zero : sum (drop i lengths) ≡ 0 = ap sum (drop_all i lengths past) in
    omega (arith, zero, none, so)

pub too_many : (lengths bytes : List ℕ) (count i rest : ℕ) → length lengths ≤ i → 0 < rest →
    sum lengths + rest ≡ sum (drop i lengths) + length bytes → Fits lengths bytes count → ⊥
too_many lengths bytes count i rest past some so fits =
    let zero : sum (drop i lengths) ≡ 0 = ap sum (drop_all i lengths past) in
    let all : sum lengths ≡ length bytes = fits.1 in
    omega (arith, zero, some, so, all)
