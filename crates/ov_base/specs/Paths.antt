-- Path texts (POSIX.1-2017, 3.271 Pathname; narrowed: absolute, no `.`, no `..`, no doubled and no trailing slash).
use Rattle.std.specs.Prelude.{ℕ, List, [], ◌∷◌, length, cond, nat_lt, nat_eq, Result, Ok, Err}
use Rattle.std.specs.List.{slice_split}
use Rattle.ov_base.specs.declared.errno.Errno.{Errno}
use Rattle.ov_base.specs.declared.errno.Errno.TheVariants.{ENAMETOOLONG, EINVAL}
use Rattle.ov_base.specs.Names.{is_name, name_fault}

-- the pieces of a text round each '/'
abbrev pub pieces : List ℕ → List (List ℕ)
pieces text = slice_split (λ b. nat_eq b 47) text

-- the path of these names below a path, or the fault of the first that is no name
abbrev pub path_below : List (List ℕ) → List (List ℕ) → Result (List (List ℕ)) Errno
path_below p [] = Ok p
path_below p (piece ∷ pieces) = cond (is_name piece) (path_below (piece ∷ p) pieces) (Err (name_fault piece))

-- the path that a text of at most 4,095 bytes spells: the root, or a name after each '/'
abbrev pub path_spelled : List ℕ → Result (List (List ℕ)) Errno
path_spelled [] = Err EINVAL
path_spelled (b ∷ bs) = cond (nat_eq b 47) (cond (nat_eq (length bs) 0) (Ok []) (path_below [] (pieces bs))) (Err EINVAL)

-- the path that a text spells, its last name first
abbrev pub path_of_text : List ℕ → Result (List (List ℕ)) Errno
path_of_text text = cond (nat_lt 4095 (length text)) (Err ENAMETOOLONG) (path_spelled text)
