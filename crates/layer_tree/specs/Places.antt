-- The names of an object, as a list of the places where they stand.
use Rattle.std.specs.Prelude.{◌≡◌, ◌⊎◌, ℕ, List, [], ◌∷◌, length, Option, Some}

-- the name in the directory is among these places
abbrev pub Listed : ℕ → List ℕ → List (ℕ × List ℕ) → Type 0
Listed d n [] = ⊥
Listed d n (p ∷ ps) = ((d ≡ p.0) × (n ≡ p.1)) ⊎ Listed d n ps

-- no place is listed twice
abbrev pub Apart : List (ℕ × List ℕ) → Type 0
Apart [] = Unit {0}
Apart (p ∷ ps) = (Listed p.0 p.1 ps → ⊥) × Apart ps

-- these are the places whose names lead to the key, each once
pub record StandsAt (step : ℕ → List ℕ → Option ℕ) (key : ℕ) (places : List (ℕ × List ℕ)) : Type 0 where
  pub found : (d : ℕ) (n : List ℕ) → Listed d n places → step d n ≡ Some key
  pub all : (d : ℕ) (n : List ℕ) → step d n ≡ Some key → Listed d n places
  pub apart : Apart places

-- so many names lead to the key
pub record HasNames (step : ℕ → List ℕ → Option ℕ) (key count : ℕ) : Type 0 where
  pub places : List (ℕ × List ℕ)
  pub stands : StandsAt step key places
  pub counted : length places ≡ count
