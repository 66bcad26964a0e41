-- The upper has no whiteout where the layers below show nothing, and changes of it keep that (overlayfs.rst, "whiteouts and opaque
-- directories").
use Rattle.std.specs.Prelude.{ℕ, Bool, List, ◌∷◌, Option, Some}
use Rattle.ov_base.specs.declared.attributes.Attributes.{Attributes}
use Rattle.ov_base.specs.declared.redirect.Redirect.{Redirect}
use Rattle.plain_model.specs.Layers.{Name, Path, Directory, Inode, Layer}
use Rattle.plain_model.specs.Laws.{Placed}
use Rattle.plain_model.specs.Tree.{IsThin}
use Rattle.mount_laws.specs.Leaves.{PlacesLeaf}
use Rattle.mount_laws.specs.Removals.{TakesAway, left_behind}

-- an upper without needless whiteouts stays one where it gets a directory or a file or link, or has an object taken away
pub record KeepsThin (U V : Layer) (lowers : List Layer) (n : Name) (p : Path) : Type 0 where
  pub directory : (k : ℕ) (a : Attributes) (opaque : Bool) (r : Option Redirect) → Placed U V (n ∷ p) (Some (Directory k a opaque r)) → IsThin V lowers
  pub leaf : (k : ℕ) (i : Inode) → PlacesLeaf U V (n ∷ p) k i → IsThin V lowers
  pub taken : TakesAway U V (n ∷ p) (left_behind U lowers n p) → IsThin V lowers

abbrev pub LawOfThin : Type 0
LawOfThin = (U V : Layer) (lowers : List Layer) → IsThin U lowers → (n : Name) (p : Path) → KeepsThin U V lowers n p
