-- Where an object of the upper that is known by its key has its place in the mount.
use Rattle.std.specs.Prelude.{◌≡◌, ◌≢◌, ℕ, false, Option, None, Some}
use Rattle.std.specs.Ordering.{is_gt}
use Rattle.plain_model.specs.Layers.{Path, Shown, Folder, Contents, shows}
use Rattle.plain_model.specs.Merging.{text_cmp}
use Rattle.layer_tree.specs.Tree.{key_at}
use Rattle.ov_base.specs.declared.place.Place.{Place}
use Rattle.merged_lookup.specs.declared.layers.Layers.{Layers}
use Rattle.merged_lookup.specs.Merged.{layers_of}

-- where what stands under a key of the upper has its place: the path that leads to it, of several the one whose text is least by bytes;
-- none where no name leads to it
abbrev pub IsPlaceOf : Layers → ℕ → Option Path → Type 0
IsPlaceOf l k None = (x : Path) → key_at l.upper x ≢ Some k
IsPlaceOf l k (Some p) = (key_at l.upper p ≡ Some k) × ((x : Path) → key_at l.upper x ≡ Some k → is_gt (text_cmp p x) ≡ false)

-- the layer and the key of what is shown
abbrev pub place_of : Option Shown → Option Place
place_of None = None
place_of (Some (Folder i k a)) = Some (record { layer = i; key = k })
place_of (Some (Contents i k x)) = Some (record { layer = i; key = k })

-- the mount shows at the path, where there is one, the object of the upper under the key
abbrev pub ShowsUpper : Layers → ℕ → Option Path → Type 0
ShowsUpper l k None = Unit {0}
ShowsUpper l k (Some p) = place_of (shows 0 (layers_of l) p) ≡ Some (record { layer = 0; key = k })
