-- The flags that a word of an `open` spells (open(2)).
use Rattle.std.specs.Prelude.{ℕ, Bool, true, false, cond, not, ◌&&◌, List, [], ◌∷◌, Option, Some, None, nat_eq, option_map}
use Rattle.std.specs.Option.{option_and_then}
use Rattle.ov_base.specs.declared.call.OpenFlags.{OpenFlags}

-- no flag
abbrev pub no_flags : OpenFlags
no_flags = record { reads = false; writes = false; create = false; exclusive = false; truncate = false; append = false; directory = false; unknown = false }

-- whether a letter spells reading, and writing: `r`, `w`, and `b` for both
abbrev pub access_of : ℕ → Option (Bool × Bool)
access_of letter =
    cond (nat_eq letter 114) (Some (true, false))
    (cond (nat_eq letter 119) (Some (false, true))
    (cond (nat_eq letter 98) (Some (true, true)) None))

-- the flags with an access
abbrev pub with_access : OpenFlags → Bool × Bool → OpenFlags
with_access f a = record f { reads = a.0; writes = a.1 }

-- one flag more, which wasn't there: `c` CREAT, `x` EXCL, `t` TRUNC, `a` APPEND, `d` DIRECTORY
abbrev pub with_flag : ℕ → OpenFlags → Option OpenFlags
with_flag letter f =
    cond (nat_eq letter 99 && not f.create) (Some (record f { create = true }))
    (cond (nat_eq letter 120 && not f.exclusive) (Some (record f { exclusive = true }))
    (cond (nat_eq letter 116 && not f.truncate) (Some (record f { truncate = true }))
    (cond (nat_eq letter 97 && not f.append) (Some (record f { append = true }))
    (cond (nat_eq letter 100 && not f.directory) (Some (record f { directory = true })) None))))

-- the flags with those of further letters
abbrev pub flags_after : OpenFlags → List ℕ → Option OpenFlags
flags_after f [] = Some f
flags_after f (letter ∷ letters) = option_and_then (λ g. flags_after g letters) (with_flag letter f)

-- the flags that a word spells
abbrev pub flags_of : List ℕ → Option OpenFlags
flags_of [] = None
flags_of (letter ∷ letters) = option_and_then (λ a. option_map (λ f. with_access f a) (flags_after no_flags letters)) (access_of letter)
