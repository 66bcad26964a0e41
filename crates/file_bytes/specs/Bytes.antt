-- What a file's bytes become (POSIX: write(2), ftruncate(2)).
use Rattle.std.specs.Prelude.{ℕ, ◌+◌, ◌-◌, List, ◌++◌, length, take, drop, replicate}

-- bytes cut or filled with zeros to a length
abbrev pub sized : List ℕ → ℕ → List ℕ
sized bytes n = take n bytes ++ replicate (n - length bytes) 0

-- bytes after a write at a place that they reach
abbrev pub over : List ℕ → ℕ → List ℕ → List ℕ
over bytes at new = take at bytes ++ new ++ drop (at + length new) bytes

-- bytes after a write at a place
abbrev pub written : List ℕ → ℕ → List ℕ → List ℕ
written bytes at new = sized bytes at ++ new ++ drop (at + length new) bytes
