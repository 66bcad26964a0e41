-- Bytes that are zero.
use Rattle.std.proofs.Common.{◌≡◌, ℕ, List, [], ◌++◌, take, replicate, ap}
use Rattle.std.proofs.Math.Seq.{take-nil}

-- nothing, filled up with zero bytes
pub sized_nothing : (n : ℕ) → take n [] ++ replicate {A = ℕ} n 0 ≡ replicate {A = ℕ} n 0
sized_nothing n = ap (λ (l : List ℕ). l ++ replicate {A = ℕ} n 0) (take-nil n)
