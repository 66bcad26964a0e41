-- Where what is shown lies.
use Rattle.std.proofs.Common.{◌≡◌, ℕ, List, option_map, Some, Ok, Err, inl, inr, ap, sym}
use Rattle.merged_lookup.specs.Descent.{place_shown}
use Rattle.merged_lookup.specs.Merged.{IsTopmost, layers_of}
use Rattle.merged_lookup.specs.declared.found.Topmost.{Topmost}
use Rattle.merged_lookup.specs.declared.found.Topmost.TheVariants as shown
use Rattle.merged_lookup.specs.declared.layers.Layers.{Layers}
use Rattle.mount_laws.specs.Looks.{walk_fault}
use Rattle.ov_base.specs.Paths.{path_of_text}
use Rattle.ov_base.specs.declared.errno.Errno.{Errno}
use Rattle.overlay_core.specs.Views.{core_layers}
use Rattle.plain_model.specs.Layers.{Path, shows}
use Rattle.ov_embedded.specs.Placing.{IsPlaced, place_of_shown}
use Rattle.ov_embedded.specs.declared.mounted.Mounted.{Mounted}
use Rattle.ov_embedded.specs.declared.outcome.Outcome.TheVariants as outcome

-- the topmost object is what is shown
place_told : (l : Layers) (p : Path) (top : Topmost) → IsTopmost l p (Some top) →
    option_map place_of_shown (shows 0 (layers_of l) p) ≡ Some (place_shown top)
place_told l p (shown.Directory d) h = ap (option_map place_of_shown) h.1
place_told l p (shown.Inode d) h = ap (option_map place_of_shown) h.shown

pub placed : (text : List ℕ) (m : Mounted) (p : Path) (top : Topmost) →
    Ok p ≡ path_of_text text → IsTopmost (core_layers m.core) p (Some top) →
    IsPlaced text m (Ok (place_shown top))
placed text m p top read is = (p, sym read, place_told (core_layers m.core) p top is)

-- nothing is
pub refused_by_walk : (text : List ℕ) (m : Mounted) (p : Path) (errno : Errno) →
    Ok p ≡ path_of_text text → walk_fault (layers_of (core_layers m.core)) p ≡ Some errno →
    IsPlaced text m (Err (outcome.Refused errno))
refused_by_walk text m p errno read is = inr (p, sym read, is)

-- the text spells no path
pub refused_by_text : (text : List ℕ) (m : Mounted) (errno : Errno) →
    Err errno ≡ path_of_text text → IsPlaced text m (Err (outcome.Refused errno))
refused_by_text text m errno read = inl (sym read)
