-- What a call that makes a name leaves, by what is shown (overlayfs.rst, "Directories" and "whiteouts and opaque directories";
-- POSIX.1-2017, mkdir()).
use Rattle.std.specs.Prelude.{◌≡◌, ◌≢◌, ℕ, Bool, false, List, [], ◌∷◌, Option, None, Some, is_some}
use Rattle.slab.specs.Slab.{get}
use Rattle.ov_base.specs.declared.attributes.Attributes.{Attributes}
use Rattle.ov_base.specs.declared.errno.Errno.{Errno}
use Rattle.ov_base.specs.declared.errno.Errno.TheVariants as errno
use Rattle.plain_model.specs.Layers.{Path, Directory, Layer, held, shows, under, is_directory}
use Rattle.plain_model.specs.Refusals.{when}
use Rattle.plain_model.specs.Tree.{SeenBranch}
use Rattle.plain_model.specs.Machine.{State}
use Rattle.mount_laws.specs.Looks.{or_else, parents_fault, IsMountOf, Makes}
use Rattle.layer_tree.specs.Tree.{layer_of}
use Rattle.layer_tree.specs.Nameless.{KeepsObjects}
use Rattle.merged_lookup.specs.declared.layers.Layers.{Layers}
use Rattle.merged_lookup.specs.Merged.{upper_of, lowers_of}
use Rattle.copy_up.specs.Showing.{KeepsOthers}
pub use Rattle.copy_up.specs.Showing.{sight, ShowsSame}

-- why nothing can be made at a path: its parents, then what is there
abbrev pub vacancy_fault : List Layer → Path → Option Errno
vacancy_fault Ls p = or_else (parents_fault Ls p) (when (is_some (shows 0 Ls p)) errno.EEXIST)

-- the attributes of a new object
abbrev pub new_attributes : ℕ → Attributes
new_attributes mode = record { mode = mode; uid = 0; gid = 0; user = [] }

-- whether the lower layers show a directory at a path, whatever the upper has there
abbrev pub shown_under : Layers → Path → Bool
shown_under l [] = false
shown_under l (n ∷ p) = is_directory (under (layer_of l.upper) (lowers_of l) n p)

-- A new directory stands in the upper at the path. It is opaque exactly where the lower layers show a directory there, so an empty one
-- is shown, and at every other path the same is shown as before. Its number was no other object's; what the upper holds elsewhere, and
-- what stands under its keys, stays, but for missing parents that it gained.
pub record MakesDirectory (old new : Layers) (p : Path) (mode : ℕ) : Type 0 where
  pub lowers : new.lowers ≡ old.lowers
  pub key : ℕ
  pub held_there : held (layer_of new.upper) p ≡ Some (Directory key (new_attributes mode) (shown_under old p) None)
  pub shown_there : sight new p ≡ Some (SeenBranch (new_attributes mode) false)
  pub elsewhere : (x : Path) → x ≢ p → sight new x ≡ sight old x
  pub vacant : get old.upper key ≡ None
  pub others : KeepsOthers old new p
  pub objects : KeepsObjects old.upper new.upper None

-- every state of the machine whose mount has the old layers goes on to one with the new layers by mkdir
abbrev pub MkdirSteps : Layers → Layers → Path → ℕ → Type 0
MkdirSteps old new p mode =
    (s : State) → IsMountOf (upper_of old) (lowers_of old) s → (c : ℕ) → Makes (upper_of new) (lowers_of new) s c p mode
