-- The words of a line.
use Rattle.std.specs.Prelude.{ℕ, List, nat_eq}
use Rattle.std.specs.List.{slice_split}

-- the words of a line have one space between
abbrev pub words : List ℕ → List (List ℕ)
words line = slice_split (λ b. nat_eq b 32) line
