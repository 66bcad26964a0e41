-- The flags of opens, as a byte has them.
use Rattle.std.specs.Prelude.{ℕ, ◌+◌, ◌*◌, ◌/◌, ◌%◌, Bool, true, false, nat_eq, ◌||◌}
use Rattle.ov_base.specs.declared.call.OpenFlags.{OpenFlags}

-- the flags of a byte: two bits of access, then O_CREAT 4, O_EXCL 8, O_TRUNC 16, O_APPEND 32,
-- O_DIRECTORY 64, and a bit that no flag has
abbrev pub bit : ℕ → ℕ → Bool
bit worth n = nat_eq (n / worth % 2) 1

abbrev pub flags_of : ℕ → OpenFlags
flags_of n = record {
  reads = nat_eq (n % 4) 0 || nat_eq (n % 4) 2;
  writes = nat_eq (n % 4) 1 || nat_eq (n % 4) 2;
  create = bit 4 n;
  exclusive = bit 8 n;
  truncate = bit 16 n;
  append = bit 32 n;
  directory = bit 64 n;
  unknown = bit 128 n;
}

-- the byte of flags: 0 reads, 1 writes, 2 does both, 3 neither; then a bit for each other flag
abbrev pub access_of : Bool → Bool → ℕ
access_of true false = 0
access_of false true = 1
access_of true true = 2
access_of false false = 3

abbrev pub one_if : Bool → ℕ
one_if true = 1
one_if false = 0

abbrev pub byte_of : OpenFlags → ℕ
byte_of f =
    access_of f.reads f.writes + 4 * (one_if f.create + 2 * (one_if f.exclusive
    + 2 * (one_if f.truncate + 2 * (one_if f.append + 2 * (one_if f.directory
    + 2 * one_if f.unknown)))))
