-- What a symbolic link's target is, by its bytes (symlink(2); Linux's PATH_MAX without the NUL).
use Rattle.std.specs.Prelude.{ℕ, Bool, not, ◌&&◌, List, length, cond, nat_lt, nat_le, nat_eq, Result, Ok, Err}
use Rattle.std.specs.List.{list_any}
use Rattle.ov_base.specs.declared.errno.Errno.{Errno}
use Rattle.ov_base.specs.declared.errno.Errno.TheVariants.{ENAMETOOLONG, ENOENT, EINVAL}

-- whether bytes are a target: 1 to 4,095 bytes, none of them NUL
abbrev pub is_target : List ℕ → Bool
is_target target = nat_lt 0 (length target) && nat_le (length target) 4095 && not (list_any (nat_eq 0) target)

-- the refusal of bytes that are no target
abbrev pub target_fault : List ℕ → Errno
target_fault target = cond (nat_lt 4095 (length target)) ENAMETOOLONG (cond (nat_eq (length target) 0) ENOENT EINVAL)

-- the target of these bytes, or the refusal
abbrev pub target_of : List ℕ → Result (List ℕ) Errno
target_of target = cond (is_target target) (Ok target) (Err (target_fault target))
