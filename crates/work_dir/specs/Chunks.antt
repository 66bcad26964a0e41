-- How many bytes a step copies.
use Rattle.std.specs.Prelude.{ℕ, ◌+◌, ◌-◌, ◌/◌, cond, nat_le}
use Rattle.work_dir.specs.declared.limits.TheConstants.{CHUNK, CHUNKS_MAX, SMALL_MAX}

-- 4,096, or the 256th part of a file of more than 1 MiB
abbrev pub chunk_of : ℕ → ℕ
chunk_of size = cond (nat_le size SMALL_MAX) CHUNK ((size - 1) / CHUNKS_MAX + 1)
