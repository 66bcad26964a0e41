-- Whether a merged directory shows a name.
use Rattle.std.specs.Prelude.{◌≡◌, Bool, true, false, List, ◌∷◌, is_some}
use Rattle.plain_model.specs.Layers.{Name, Path, Layer, shows}
use Rattle.mount_laws.specs.Removals.{ShowsNoName}

-- whether names are shown in p
abbrev pub TellsNames : List Layer → Path → Bool → Type 0
TellsNames Ls p true = (n : Name) × (is_some (shows 0 Ls (n ∷ p)) ≡ true)
TellsNames Ls p false = ShowsNoName Ls p
