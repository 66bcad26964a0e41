-- How the bytes of a name are stored.
use Rattle.std.specs.Prelude.{ℕ, ◌≤◌, List, take}
use Rattle.ov_base.specs.declared.name.Stored.{Stored}
use Rattle.ov_base.specs.declared.name.Stored.TheVariants.{Short, Long}

-- the bytes that are stored
abbrev pub bytes_of : Stored → List ℕ
bytes_of (Short len bytes) = take len bytes
bytes_of (Long bytes) = bytes.value

-- the buffer has so many bytes
abbrev pub IsWithin : Stored → Type 0
IsWithin (Short len bytes) = len ≤ 22
IsWithin (Long bytes) = Unit {0}
