-- What has to be placed in the upper before it is changed at a path.
use Rattle.std.specs.Prelude.{◌≡◌, ℕ, ◌<◌, Bool, true, false, length, take, reverse}
use Rattle.plain_model.specs.Layers.{Path, Layer, held, holds_directory}
use Rattle.copy_up.specs.declared.needs.Need.{Need}
use Rattle.copy_up.specs.declared.needs.Need.TheVariants as need

-- the first so many names of a path, from the root down
abbrev pub first_names : ℕ → Path → Path
first_names k p = reverse (take k (reverse p))

-- whether the upper holds a directory at the first so many names of a path
abbrev pub has_directory : Layer → Path → ℕ → Bool
has_directory U p k = holds_directory (held U (first_names k p))

-- The topmost parent of the path at which the upper holds no directory, told by its number of names; none where it holds each of them.
abbrev pub IsNeed : Layer → Path → Need → Type 0
IsNeed U p need.Nothing = (k : ℕ) → k < length p → has_directory U p k ≡ true
IsNeed U p (need.Directory count) = (count < length p) × (has_directory U p count ≡ false) × ((k : ℕ) → k < count → has_directory U p k ≡ true)
