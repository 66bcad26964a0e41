-- What a name is, by its bytes (POSIX.1-2017, 3.170 Filename; Linux's NAME_MAX).
use Rattle.std.specs.Prelude.{ℕ, Bool, not, ◌&&◌, List, [], ◌∷◌, length, cond, nat_lt, nat_eq, Result, Ok, Err}
use Rattle.std.specs.List.{list_all}
use Rattle.std.specs.Str.{bytes_eq}
use Rattle.ov_base.specs.declared.errno.Errno.{Errno}
use Rattle.ov_base.specs.declared.errno.Errno.TheVariants.{ENAMETOOLONG, EINVAL}

-- whether bytes are a name: 1 to 255 bytes, none of them `/` or NUL, and neither `.` nor `..`
abbrev pub is_name : List ℕ → Bool
is_name bytes =
    not (nat_eq (length bytes) 0) && not (nat_lt 255 (length bytes))
    && not (bytes_eq bytes (46 ∷ [])) && not (bytes_eq bytes (46 ∷ 46 ∷ []))
    && list_all (λ b. not (nat_eq b 47) && not (nat_eq b 0)) bytes

-- the refusal of bytes that are no name
abbrev pub name_fault : List ℕ → Errno
name_fault bytes = cond (nat_lt 255 (length bytes)) ENAMETOOLONG EINVAL

-- the name of these bytes, or the refusal
abbrev pub name_of : List ℕ → Result (List ℕ) Errno
name_of bytes = cond (is_name bytes) (Ok bytes) (Err (name_fault bytes))
