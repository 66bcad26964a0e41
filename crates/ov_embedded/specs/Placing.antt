-- Where the object lies that a path shows.
use Rattle.std.specs.Prelude.{◌≡◌, ℕ, List, option_map, Some, Result, Ok, Err, ◌⊎◌}
use Rattle.merged_lookup.specs.Merged.{layers_of}
use Rattle.ov_base.specs.declared.place.Place.{Place}
use Rattle.mount_laws.specs.Looks.{walk_fault}
use Rattle.ov_base.specs.Paths.{path_of_text}
use Rattle.overlay_core.specs.Views.{core_layers}
use Rattle.plain_model.specs.Layers.{Contents, Folder, Path, Shown, shows}
use Rattle.ov_embedded.specs.declared.mounted.Mounted.{Mounted}
use Rattle.ov_embedded.specs.declared.outcome.Outcome.{Outcome}
use Rattle.ov_embedded.specs.declared.outcome.Outcome.TheVariants as outcome

-- the layer of what is shown, and its key there
abbrev pub place_of_shown : Shown → Place
place_of_shown (Folder i k a) = record { layer = i; key = k }
place_of_shown (Contents i k x) = record { layer = i; key = k }

-- THE PLACE OF WHAT A PATH SHOWS, or why it shows nothing
abbrev pub IsPlaced : List ℕ → Mounted → Result Place Outcome → Type 0
IsPlaced text m (Ok place) =
    (p : Path) × (path_of_text text ≡ Ok p)
    × (option_map place_of_shown (shows 0 (layers_of (core_layers m.core)) p) ≡ Some place)
IsPlaced text m (Err (outcome.Refused errno)) =
    (path_of_text text ≡ Err errno)
    ⊎ ((p : Path) × (path_of_text text ≡ Ok p)
    × (walk_fault (layers_of (core_layers m.core)) p ≡ Some errno))
IsPlaced text m (Err outcome.NoMemory) = Unit {0}
IsPlaced text m (Err _) = ⊥

-- so of a mount that stays as it was
abbrev pub Places : List ℕ → Mounted → Mounted → Result Place Outcome → Type 0
Places text old new result = (new ≡ old) × IsPlaced text old result
