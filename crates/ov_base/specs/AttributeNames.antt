-- What the name of a user attribute is, by its bytes (xattr(7), "Extended attribute namespaces"; Linux's XATTR_NAME_MAX).
use Rattle.std.specs.Prelude.{ℕ, Bool, not, ◌||◌, List, length, cond, nat_lt, nat_eq, Result, Ok, Err, codes}
use Rattle.std.specs.List.{list_any, starts_with}
use Rattle.ov_base.specs.declared.errno.Errno.{Errno}
use Rattle.ov_base.specs.declared.errno.Errno.TheVariants.{EINVAL, EOPNOTSUPP}

-- whether bytes are the name of no attribute: none, over 255, or with a NUL
abbrev pub is_malformed : List ℕ → Bool
is_malformed name = nat_eq (length name) 0 || nat_lt 255 (length name) || list_any (nat_eq 0) name

-- whether a name is outside the namespace `user.`, or is no more than it
abbrev pub is_foreign : List ℕ → Bool
is_foreign name = not (starts_with nat_eq name (codes "user.")) || nat_eq (length name) 5

-- the name of these bytes, or the refusal
abbrev pub attribute_of : List ℕ → Result (List ℕ) Errno
attribute_of name = cond (is_malformed name) (Err EINVAL) (cond (is_foreign name) (Err EOPNOTSUPP) (Ok name))
