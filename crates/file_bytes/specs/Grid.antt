-- Pieces of one length, but for the last.
use Prim.Native.Nat.{suc}
use Rattle.std.specs.Prelude.{ℕ, ◌≡◌, ◌+◌, ◌<◌, ◌≤◌, List, [], ◌∷◌, ◌++◌}
use Rattle.std.specs.Prelude.{length, take, drop, slice_index_or}

-- each piece has bytes and at most c, and each but the last has c
pub record IsGrid (c : ℕ) (pieces : List (List ℕ)) : Type 0 where
  pub full : (k : ℕ) → k + 1 < length pieces → length (slice_index_or pieces k []) ≡ c
  pub some : (k : ℕ) → k < length pieces → 0 < length (slice_index_or pieces k [])
  pub most : (k : ℕ) → k < length pieces → length (slice_index_or pieces k []) ≤ c

-- the pieces with this one at a place, where one stands or which is the end
abbrev pub put_at : List (List ℕ) → ℕ → List ℕ → List (List ℕ)
put_at pieces place piece = take place pieces ++ piece ∷ drop (suc place) pieces
