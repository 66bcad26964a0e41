-- Which directories come up with a call.
use Rattle.std.specs.Prelude.{◌≡◌, ◌≢◌, ◌⊎◌, Bool, true, Option, None, Some}
use Rattle.ov_base.specs.Calls.{Call}
use Rattle.ov_base.specs.declared.call.CallOf.TheVariants as call
use Rattle.plain_model.specs.Layers.{Path, held, holds_directory}
use Rattle.layer_tree.specs.Tree.{layer_of}
use Rattle.merged_lookup.specs.declared.layers.Layers.{Layers}
use Rattle.copy_up.specs.Showing.{PlacedParent}
use Rattle.mount_calls.specs.Lacks.{path_of_call}

-- A directory comes up, or changes, at x: the upper holds one there that it held nowhere before, of
-- this number and with these attributes and marks.
pub record ComesUp (old new : Layers) (x : Path) : Type 0 where
  pub now : holds_directory (held (layer_of new.upper) x) ≡ true
  pub before : (y : Path) → held (layer_of new.upper) x ≢ held (layer_of old.upper) y

-- where a call may bring its own object up, or make it, as a directory
abbrev pub own_directory : Call → Option Path
own_directory (call.Chmod p mode) = Some p
own_directory (call.Chown p uid gid) = Some p
own_directory (call.SetAttribute p n v) = Some p
own_directory (call.DeleteAttribute p n) = Some p
own_directory (call.Mkdir p mode) = Some p
own_directory (call.Rename p q) = Some q
own_directory _ = None

-- x is a missing parent of a path of the call, which the upper gained as it was shown
abbrev pub IsParentOf : Call → Layers → Layers → Path → Type 0
IsParentOf call old new x =
    (second : Bool) × (p : Path) × (path_of_call call second ≡ Some p) × PlacedParent old new p x

-- A CALL BRINGS UP NO DIRECTORY, AND CHANGES NONE, BUT ITS OWN OBJECT AND MISSING PARENTS OF ITS
-- PATHS. A rename's own object stands at the new path then. Of a link, an unlink, a rmdir, a symlink
-- and an open only parents come up, and of every other call nothing.
abbrev pub BringsUp : Call → Layers → Layers → Type 0
BringsUp call old new =
    (x : Path) → ComesUp old new x → (own_directory call ≡ Some x) ⊎ IsParentOf call old new x
