-- Bytes that are read from hexadecimal digits, pair by pair.
use Rattle.std.proofs.Common.{◌≡◌, ℕ, zero, suc, ◌+◌, ◌*◌, ◌<◌, ◌≤◌, List, [], ◌∷◌, ◌++◌, length, get_or, drop, option_map, Option, Some, None, refl, sym, ap, ◌∙◌, arith}
use Rattle.std.specs.Option.{option_and_then}
use Rattle.std.proofs.lemmas.List.{drop_more, drop_all, append_assoc, append-nil}
use Rattle.ov_wire.specs.ManifestEntries.{pair_value, hex_bytes}

no-bytes : (b : Option ℕ) → option_and_then (λ (x : ℕ). option_map (λ (xs : List ℕ). x ∷ xs) None) b ≡ None
no-bytes None = refl
no-bytes (Some x) = refl

-- an odd number of digits spells nothing
pub odd-digits : (xs : List ℕ) (k : ℕ) → length xs ≡ 2 * k + 1 → hex_bytes xs ≡ None
odd-digits [] k e = absurd (omega arith)
odd-digits (a ∷ []) k e = refl
odd-digits (a ∷ b ∷ rest) zero e = absurd (omega arith)
odd-digits (a ∷ b ∷ rest) (suc k) e =
    let fewer : length rest ≡ 2 * k + 1 = omega arith in
    ap (λ (o : Option (List ℕ)). option_and_then (λ (x : ℕ). option_map (λ (xs : List ℕ). x ∷ xs) o) (pair_value a b)) (odd-digits rest k fewer) ∙ no-bytes (pair_value a b)

module _ (xs : List ℕ) (i : ℕ) (within : 2 * i + 1 < length xs) where
  abbrev high : ℕ
  high = get_or xs (2 * i) 0

  abbrev low : ℕ
  low = get_or xs (2 * i + 1) 0

  -- what is left after so many pairs begins with the next pair
  next-pair : drop (2 * i) xs ≡ high ∷ low ∷ drop (2 * (i + 1)) xs
  next-pair =
      let first : 2 * i < length xs = omega arith in
      let place : 2 * i + 1 + 1 ≡ 2 * (i + 1) = omega arith in
      drop_more xs (2 * i) 0 first
      ∙ ap (λ (ys : List ℕ). high ∷ ys) (drop_more xs (2 * i + 1) 0 within)
      ∙ ap (λ (j : ℕ). high ∷ low ∷ drop j xs) place

  spelled-on : (bytes : List ℕ) (o : Option ℕ) → pair_value high low ≡ o → option_map (λ (rest : List ℕ). bytes ++ rest) (hex_bytes (drop (2 * i) xs)) ≡ option_map (λ (rest : List ℕ). bytes ++ rest) (option_and_then (λ (x : ℕ). option_map (λ (ys : List ℕ). x ∷ ys) (hex_bytes (drop (2 * (i + 1)) xs))) o)
  spelled-on bytes o is =
      ap (λ (ys : List ℕ). option_map (λ (rest : List ℕ). bytes ++ rest) (hex_bytes ys)) next-pair
      ∙ ap (λ (o : Option ℕ). option_map (λ (rest : List ℕ). bytes ++ rest) (option_and_then (λ (x : ℕ). option_map (λ (ys : List ℕ). x ∷ ys) (hex_bytes (drop (2 * (i + 1)) xs))) o)) is

  -- one pair on
  pub pair-on : (bytes more : List ℕ) (byte : ℕ) → pair_value high low ≡ Some byte → more ≡ bytes ++ byte ∷ [] → option_map (λ (rest : List ℕ). bytes ++ rest) (hex_bytes (drop (2 * i) xs)) ≡ option_map (λ (rest : List ℕ). more ++ rest) (hex_bytes (drop (2 * (i + 1)) xs))
  pair-on bytes more byte is grown =
      spelled-on bytes (Some byte) is ∙ of (hex_bytes (drop (2 * (i + 1)) xs))
      ∙ ap (λ (ys : List ℕ). option_map (λ (rest : List ℕ). ys ++ rest) (hex_bytes (drop (2 * (i + 1)) xs))) (sym grown)
    where
      of : (o : Option (List ℕ)) → option_map (λ (rest : List ℕ). bytes ++ rest) (option_map (λ (ys : List ℕ). byte ∷ ys) o) ≡ option_map (λ (rest : List ℕ). (bytes ++ byte ∷ []) ++ rest) o
      of None = refl
      of (Some rest) = ap (λ (ys : List ℕ). Some ys) (sym (append_assoc bytes (byte ∷ []) rest))

  -- a pair that is none
  pub pair-fault : (bytes : List ℕ) → pair_value high low ≡ None → option_map (λ (rest : List ℕ). bytes ++ rest) (hex_bytes (drop (2 * i) xs)) ≡ None
  pair-fault bytes is = spelled-on bytes None is

-- no pair is left
pub pairs-end : (xs bytes : List ℕ) (i : ℕ) → length xs ≤ 2 * i → option_map (λ (rest : List ℕ). bytes ++ rest) (hex_bytes (drop (2 * i) xs)) ≡ Some bytes
pairs-end xs bytes i past = ap (λ (ys : List ℕ). option_map (λ (rest : List ℕ). bytes ++ rest) (hex_bytes ys)) (drop_all (2 * i) xs past) ∙ ap (λ (ys : List ℕ). Some ys) (append-nil bytes)
