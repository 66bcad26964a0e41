-- The user attributes of an object, each a name and a value, in the order in which they were first set (getxattr(2), setxattr(2),
-- removexattr(2)).
use Rattle.std.specs.Prelude.{ℕ, not, cond, List, [], ◌∷◌, Option, None, Some, filter, bytes_eq}

-- the value of an attribute's name
abbrev pub value_of : List (List ℕ × List ℕ) → List ℕ → Option (List ℕ)
value_of [] n = None
value_of (x ∷ xs) n = cond (bytes_eq x.0 n) (Some x.1) (value_of xs n)

-- user attributes with a value set: a present name keeps its position, a new one goes last
abbrev pub set_value : List (List ℕ × List ℕ) → List ℕ → List ℕ → List (List ℕ × List ℕ)
set_value [] n v = (n, v) ∷ []
set_value (x ∷ xs) n v = cond (bytes_eq x.0 n) ((n, v) ∷ xs) (x ∷ set_value xs n v)

-- user attributes without a name
abbrev pub drop_value : List (List ℕ × List ℕ) → List ℕ → List (List ℕ × List ℕ)
drop_value xs n = filter (λ x. not (bytes_eq x.0 n)) xs
