-- What a mode is (chmod(2); sys_stat.h of POSIX.1-2017): the twelve bits that chmod sets.
use Rattle.std.specs.Prelude.{ℕ, cond, nat_lt, Result, Ok, Err}
use Rattle.ov_base.specs.declared.errno.Errno.{Errno}
use Rattle.ov_base.specs.declared.errno.Errno.TheVariants.{EINVAL}

-- the mode of these bits, or the refusal of more than twelve
abbrev pub mode_of : ℕ → Result ℕ Errno
mode_of bits = cond (nat_lt 0o7777 bits) (Err EINVAL) (Ok bits)
