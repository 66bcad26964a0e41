-- The cookies of renames (inotify(7), "cookie").
use Rattle.std.specs.Prelude.{ℕ, ◌+◌, ◌-◌, ◌%◌, ◌^◌}

-- the cookie of the k-th rename that moved something: it is never 0
abbrev pub cookie_of : ℕ → ℕ
cookie_of k = (k - 1) % (2 ^ 32 - 1) + 1
