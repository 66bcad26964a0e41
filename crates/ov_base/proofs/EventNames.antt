-- A name at the head of a buffer of zeros.
use Rattle.std.proofs.Common.{◌≡◌, ℕ, List, ◌++◌, length, IsTrue, drop, replicate, refl}
use Rattle.std.proofs.Math.Seq.{take-append_seam}
use Rattle.std.proofs.lemmas.List.{drop-replicate}
use Rattle.ov_base.specs.Names.{is_name}
use Rattle.ov_base.specs.EventNames.{IsStored}

-- the bytes of a name laid over the head of 255 zeros
pub name-stored : (bytes laid : List ℕ) → IsTrue (is_name bytes) → laid ≡ bytes → IsStored (record { len = length bytes; bytes = laid ++ drop (length bytes) (replicate {A = ℕ} 255 0) })
name-stored bytes laid name same = record {
  name = rw (same, take-append_seam) name;
  padding = let zero : ℕ = 0 in rw (same, drop-replicate (length bytes) 255 zero, take-append_seam) refl;
  whole = rw (same, take-append_seam) refl;
}
