-- The flags of an open and their byte: each is that of the other.
use Rattle.std.proofs.Common.{◌≡◌, ℕ, zero, suc, ◌+◌, ◌*◌, ◌^◌, ◌<◌, Bool, true, false, refl, ap}
use Rattle.std.proofs.Common.{arith}
use Rattle.std.specs.Prelude.{nat_eq, ◌||◌, ◌/◌, ◌%◌}
use Rattle.ov_base.specs.declared.call.OpenFlags.{OpenFlags}
use Rattle.ov_frames.specs.Flags.{access_of, bit, byte_of, flags_of, one_if}

-- what flags count for
one_if-small : (b : Bool) → one_if b < 2
one_if-small true = omega arith
one_if-small false = omega arith

access-small : (r w : Bool) → access_of r w < 4
access-small true true = omega arith
access-small true false = omega arith
access-small false true = omega arith
access-small false false = omega arith

-- a bit of which the number is known
bit_again : (n worth : ℕ) (b : Bool) → n / worth % 2 ≡ one_if b → bit worth n ≡ b
bit_again n worth true e = ap (λ (k : ℕ). nat_eq k 1) e
bit_again n worth false e = ap (λ (k : ℕ). nat_eq k 1) e

-- whether a number whose access is known reads
reads_again : (n : ℕ) (r w : Bool) → n % 4 ≡ access_of r w
    → (nat_eq (n % 4) 0 || nat_eq (n % 4) 2) ≡ r
reads_again n true true e = rw e refl
reads_again n true false e = rw e refl
reads_again n false true e = rw e refl
reads_again n false false e = rw e refl

-- whether it writes
writes_again : (n : ℕ) (r w : Bool) → n % 4 ≡ access_of r w
    → (nat_eq (n % 4) 1 || nat_eq (n % 4) 2) ≡ w
writes_again n true true e = rw e refl
writes_again n true false e = rw e refl
writes_again n false true e = rw e refl
writes_again n false false e = rw e refl

-- the parts of a number that is so made up
parts : (a c x t p d u n : ℕ) → a < 4 → c < 2 → x < 2 → t < 2 → p < 2 → d < 2 → u < 2
    → n ≡ a + 4 * (c + 2 * (x + 2 * (t + 2 * (p + 2 * (d + 2 * u)))))
    → (n % 4 ≡ a) × (n / 4 % 2 ≡ c) × (n / 8 % 2 ≡ x) × (n / 16 % 2 ≡ t) × (n / 32 % 2 ≡ p)
    × (n / 64 % 2 ≡ d) × (n / 128 % 2 ≡ u) × (n < 2 ^ 8)
parts a c x t p d u n ha hc hx ht hp hd hu e = (
  omega arith,
  omega arith,
  omega arith,
  omega arith,
  omega arith,
  omega arith,
  omega arith,
  omega arith,
)

-- the parts of the byte of flags
parts_of : (f : OpenFlags) → (byte_of f % 4 ≡ access_of f.reads f.writes)
    × (byte_of f / 4 % 2 ≡ one_if f.create) × (byte_of f / 8 % 2 ≡ one_if f.exclusive)
    × (byte_of f / 16 % 2 ≡ one_if f.truncate) × (byte_of f / 32 % 2 ≡ one_if f.append)
    × (byte_of f / 64 % 2 ≡ one_if f.directory) × (byte_of f / 128 % 2 ≡ one_if f.unknown)
    × (byte_of f < 2 ^ 8)
parts_of f =
    parts (access_of f.reads f.writes) (one_if f.create) (one_if f.exclusive) (one_if f.truncate)
    (one_if f.append) (one_if f.directory) (one_if f.unknown) (byte_of f)
    (access-small f.reads f.writes) (one_if-small f.create) (one_if-small f.exclusive)
    (one_if-small f.truncate) (one_if-small f.append) (one_if-small f.directory)
    (one_if-small f.unknown) refl

-- the flags of the byte of flags
pub flags_again : (f : OpenFlags) → flags_of (byte_of f) ≡ f
flags_again f =
    let n = byte_of f in
    let h = parts_of f in
    λ i. record {
      reads = reads_again n f.reads f.writes h.0 i;
      writes = writes_again n f.reads f.writes h.0 i;
      create = bit_again n 4 f.create h.1 i;
      exclusive = bit_again n 8 f.exclusive h.2 i;
      truncate = bit_again n 16 f.truncate h.3 i;
      append = bit_again n 32 f.append h.4 i;
      directory = bit_again n 64 f.directory h.5 i;
      unknown = bit_again n 128 f.unknown h.6 i;
    }

-- it is a byte
pub byte_small : (f : OpenFlags) → byte_of f < 2 ^ 8
byte_small f = (parts_of f).7

-- a bit is one where it is one
one_if_again : (k : ℕ) → k < 2 → one_if (nat_eq k 1) ≡ k
one_if_again zero h = refl
one_if_again (suc zero) h = refl
one_if_again (suc (suc k)) h = absurd (omega (arith, h))

-- two bits are those of the access that they stand for
access_again : (k : ℕ) → k < 4
    → access_of (nat_eq k 0 || nat_eq k 2) (nat_eq k 1 || nat_eq k 2) ≡ k
access_again zero h = refl
access_again (suc zero) h = refl
access_again (suc (suc zero)) h = refl
access_again (suc (suc (suc zero))) h = refl
access_again (suc (suc (suc (suc k)))) h = absurd (omega (arith, h))

-- the byte of the flags of a byte
pub byte_again : (n : ℕ) → n < 2 ^ 8 → byte_of (flags_of n) ≡ n
byte_again n h =
    rw (
      access_again (n % 4) (omega arith),
      one_if_again (n / 4 % 2) (omega arith),
      one_if_again (n / 8 % 2) (omega arith),
      one_if_again (n / 16 % 2) (omega arith),
      one_if_again (n / 32 % 2) (omega arith),
      one_if_again (n / 64 % 2) (omega arith),
      one_if_again (n / 128 % 2) (omega arith),
    ) (omega arith)
