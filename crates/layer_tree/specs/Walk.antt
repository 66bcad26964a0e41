-- Walks by names, from key to key.
use Rattle.std.specs.Prelude.{◌≡◌, ℕ, List, [], ◌∷◌, Option, Some}
use Rattle.std.specs.Option.{option_and_then}

-- the key that a path leads to from this key on, its last name first
abbrev pub walk : (ℕ → List ℕ → Option ℕ) → ℕ → List (List ℕ) → Option ℕ
walk step from [] = Some from
walk step from (name ∷ path) = option_and_then (λ key. step key name) (walk step from path)

-- the name in the directory is bound anew, or to nothing, and every other name is bound as it was
pub record Rebinds {A : Type 0} (old new : ℕ → List ℕ → Option A) (dir : ℕ) (name : List ℕ) (to : Option A) : Type 0 where
  pub at : new dir name ≡ to
  pub others : (d : ℕ) (n : List ℕ) → ((d ≡ dir) → (n ≡ name) → ⊥) → new d n ≡ old d n
