-- What stays of bytes behind which others are put.
use Rattle.std.specs.Prelude.{◌≡◌, ℕ, List, length, take}

-- the new bytes start with all of the old ones
pub record StartsWith (old new : List ℕ) : Type 0 where
  pub front : take (length old) new ≡ old
