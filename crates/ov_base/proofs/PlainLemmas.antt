-- Runs of plain bytes, and what the lanes of a block tell of one.
use Rattle.std.proofs.Common.{◌≡◌, ◌<◌, ◌≤◌, ◌%◌, ◌^◌, ℕ, List, Bool, true, false, not, ◌&&◌}
use Rattle.std.proofs.Common.{nat_eq, eqb, cond, min, map, take, length, replicate, bit_or, refl}
use Rattle.std.proofs.Common.{sym, ap, ◌∙◌, arith, inl, inr}
use Rattle.std.specs.List.{prefix_len, list_all}
use Rattle.std.specs.Int.Count.{count_trailing_zeros}
use Rattle.std.specs.Simd.Lanes.{zip2, mask_l, top}
use Rattle.std.proofs.lemmas.Bool.{cases_eq, eq-eqb, ne_eqb, cond-true, cond-false}
use Rattle.std.proofs.lemmas.Simd.{map-map, mask_l-mod, zip2_splat, zip2_of_maps, first_set_mask_l}
use Rattle.std.proofs.lemmas.List.{length-map, get_or-take}
use Rattle.std.proofs.lemmas.List.Sums.{prefix_len-le-length, prefix_len_passes, prefix_len_stops}
use Rattle.std.proofs.lemmas.List.Sums.{list_all-from_AllPass}
use Rattle.std.proofs.lemmas.List.Folds.{length-prefix_len, list_all_at}

-- whether a byte is neither '/' nor NUL
abbrev pub is_plain : ℕ → Bool
is_plain b = not (nat_eq b 47) && not (nat_eq b 0)

-- a lane that is all ones where two bytes are equal
abbrev hit : ℕ → ℕ → ℕ
hit x y = cond (eqb x y) 255 0

-- a lane stops where either test hits
either-stops : (a b : Bool) → top 7 (bit_or (cond a 255 0) (cond b 255 0)) ≡ not (not a && not b)
either-stops true true = refl
either-stops true false = refl
either-stops false true = refl
either-stops false false = refl

-- what is not not plain is plain
not-not : (b : Bool) → not (not b) ≡ b
not-not true = refl
not-not false = refl

-- the lanes that stop are those of the bytes that are not plain
pub stopping-lanes : (v : List ℕ) → length v ≡ 8
    → map (top 7) (zip2 bit_or (zip2 hit v (replicate 8 47)) (zip2 hit v (replicate 8 0)))
    ≡ map (λ b. not (is_plain b)) v
stopping-lanes v long =
    ap (map (top 7)) (zip2_of_maps bit_or (λ x. hit x 47) (λ x. hit x 0) v
    (zip2_splat hit v 8 47 long) (zip2_splat hit v 8 0 long))
    ∙ map-map (top 7) (λ x. bit_or (hit x 47) (hit x 0)) v
    ∙ (λ i. map (λ b. either-stops (eqb b 47) (eqb b 0) i) v)

-- the lowest bit, or 8 where there is none
lowest-or : (m r : ℕ) → cond (eqb m 0) 8 (count_trailing_zeros 64 m) ≡ r → r ≤ 8
    → min (count_trailing_zeros 64 m) 8 ≡ r
unfolding count_trailing_zeros
lowest-or m r e small = elim (cases_eq m 0) [
  | inl none ↦ ap (λ n. min (count_trailing_zeros 64 n) 8) none
      ∙ sym (cond-true _ _ _ (eq-eqb m 0 none)) ∙ e
  | inr some ↦ let same : count_trailing_zeros 64 m ≡ r = sym (cond-false _ _ _ (ne_eqb m 0 some))
      ∙ e in omega arith
]

-- the lowest lane that stops is where the run of plain bytes ends
pub block-run : (v : List ℕ) → length v ≡ 8
    → min (count_trailing_zeros 64 (mask_l
    (map (top 7) (zip2 bit_or (zip2 hit v (replicate 8 47)) (zip2 hit v (replicate 8 0)))) % 2 ^
    64)) 8 ≡ prefix_len is_plain v
block-run v long =
    let stops : ℕ → Bool = λ b. not (is_plain b) in
    let mask = ap (λ ms. mask_l ms % 2 ^ 64) (stopping-lanes v long)
    ∙ mask_l-mod (map stops v) 64 (omega (arith, length-map v stops, long)) in
    ap (λ m. min (count_trailing_zeros 64 m) 8) mask
    ∙ lowest-or _ _ (first_set_mask_l stops v 8 long (omega arith)
    ∙ (λ i. prefix_len (λ b. not-not (is_plain b) i) v))
    (omega (arith, prefix_len-le-length is_plain v, long))

-- bytes are all plain where the run reaches their end
pub all-plain : (p : ℕ → Bool) (bytes : List ℕ) → nat_eq (prefix_len p bytes) (length bytes)
    ≡ list_all p bytes
all-plain p bytes = elim (cases_eq (prefix_len p bytes) (length bytes)) [
  | inl whole ↦ eq-eqb _ _ whole ∙ sym (list_all-from_AllPass p bytes
      (λ k d lt. prefix_len_passes p bytes k d (omega arith)))
  | inr other ↦
      let within : prefix_len p bytes < length bytes =
      omega (arith, prefix_len-le-length p bytes) in
      ne_eqb _ _ other ∙ sym (list_all_at p bytes (prefix_len p bytes) 0 within
      (prefix_len_stops p bytes 0 within))
]

-- a run is of plain bytes
pub run-all : (p : ℕ → Bool) (bytes : List ℕ) → list_all p (take (prefix_len p bytes) bytes) ≡ true
run-all p bytes = list_all-from_AllPass p (take (prefix_len p bytes) bytes) (λ k d lt.
    let before : k < prefix_len p bytes = omega (arith, length-prefix_len p bytes) in
    ap p (get_or-take (prefix_len p bytes) bytes k d before) ∙ prefix_len_passes p bytes k d before)
