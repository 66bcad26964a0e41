-- What was judged of a call that makes or removes a name, before it is made (POSIX.1-2017, mkdir(),
-- symlink(), unlink() and rmdir()).
use Rattle.std.specs.Prelude.{◌≡◌, false, None}
use Rattle.ov_base.specs.declared.place.Place.{Place}
use Rattle.plain_model.specs.Layers.{Path, shows}
use Rattle.mount_laws.specs.Removals.{rmdir_fault, unlink_fault, ShowsNoName}
use Rattle.merged_lookup.specs.declared.layers.Layers.{Layers}
use Rattle.merged_lookup.specs.declared.stack.Stack.{Stack}
use Rattle.merged_lookup.specs.Merged.{layers_of, parent, parents_fault, IsStackOf, ShowsInode}

-- A NAME MAY BE MADE: nothing refuses the way to p, at which nothing is shown, and in this merged
-- directory its last name stands
pub record IsMakeable (l : Layers) (p : Path) (found : Stack) : Type 0 where
  pub parents : parents_fault (layers_of l) p ≡ None
  pub absent : shows 0 (layers_of l) p ≡ None
  pub directory : IsStackOf l (parent p) found

-- A NAME MAY BE UNLINKED: nothing refuses it, in this merged directory it stands, and the file or
-- symbolic link that it shows is in this place
pub record IsUnlinkable (l : Layers) (p : Path) (found : Stack) (place : Place) : Type 0 where
  pub allowed : unlink_fault (layers_of l) p ≡ None
  pub directory : IsStackOf l (parent p) found
  pub shown : ShowsInode l p place

-- A DIRECTORY MAY BE REMOVED: nothing refuses it, it shows no name, and in this merged one its own
-- name stands
pub record IsRemovable (l : Layers) (p : Path) (found : Stack) : Type 0 where
  pub allowed : rmdir_fault (layers_of l) p false ≡ None
  pub bare : ShowsNoName (layers_of l) p
  pub directory : IsStackOf l (parent p) found
