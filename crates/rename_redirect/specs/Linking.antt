-- What link leaves of the upper (link(2); overlayfs.rst, "Non-directories": a file of a lower layer is copied up first).
use Rattle.std.specs.Prelude.{◌≡◌, ◌≢◌, ◌⊎◌, ℕ, Bool, Option, Some, IsSome, is_some, true}
use Rattle.slab.specs.Slab.{get}
use Rattle.ov_base.specs.declared.attributes.Attributes.{Attributes}
use Rattle.ov_base.specs.declared.redirect.Redirect.{Redirect}
use Rattle.plain_model.specs.Layers.{Path, Directory, Inode, Layer, held, fill, IsLayer, AreLayers}
use Rattle.plain_model.specs.Machine.{State}
use Rattle.mount_laws.specs.Leaves.{PlacesLeaf}
use Rattle.mount_laws.specs.Linking.{AddsName, GainsName, MakesName}
use Rattle.mount_laws.specs.Looks.{IsMountOf}
use Rattle.mount_laws.specs.StayOpen.{GainsLink}
use Rattle.layer_tree.specs.Tree.{layer_of, seen_at, new_inode}
use Rattle.layer_tree.specs.declared.node.Object.{Object}
use Rattle.layer_tree.specs.Nameless.{IsNameless}
use Rattle.merged_lookup.specs.declared.layers.Layers.{Layers}
use Rattle.merged_lookup.specs.Merged.{upper_of, layers_of, lowers_of}
use Rattle.copy_up.specs.Leaves.{copy_mark}
use Rattle.copy_up.specs.Showing.{GainsParents, KeepsPath, ShowsSame}

-- every state of the machine with this option whose mount has the old layers goes on to one with the new layers by link
abbrev pub LinkSteps : Layers → Layers → Bool → Path → Path → Type 0
LinkSteps old new metacopy p q =
    (s : State) → IsMountOf (upper_of old) (lowers_of old) s → s.options.metacopy ≡ metacopy → (c : ℕ) → MakesName (upper_of new) (lowers_of new) s c p q

-- the directories that a layer holds stay, with their numbers, attributes and marks
abbrev pub KeepsDirectories : Layer → Layer → Type 0
KeepsDirectories U V =
    (x : Path) (k : ℕ) (a : Attributes) (opaque : Bool) (r : Option Redirect) → held U x ≡ Some (Directory k a opaque r) → held V x ≡ Some (Directory k a opaque r)

-- What p showed has the further name q, which is all that is shown anew but for its link count, where the bytes of a file of lower layers
-- stay there if low says so, and each inode that the upper had gained a link so. The directories that the upper held stay, and so does
-- what stood under its keys, also what has no name. Every path but these two holds what it held, unless it is a missing parent of one of
-- them that the upper gained.
pub record GivesName (old new : Layers) (low : Bool) (p q : Path) : Type 0 where
  pub gains : AreLayers (layers_of old) → GainsName (upper_of old) (upper_of new) (lowers_of old) low p q
  pub links : AreLayers (layers_of old) → (j : ℕ) → is_some ((upper_of old).inodes j) ≡ true → GainsLink (upper_of old) (upper_of new) p q j
  pub paths : (x : Path) → x ≢ p → x ≢ q → KeepsPath old new p x ⊎ KeepsPath old new q x
  pub directories : KeepsDirectories (layer_of old.upper) (layer_of new.upper)
  pub seen : (k : ℕ) → IsSome (get old.upper k) → seen_at new.upper k ≡ seen_at old.upper k
  pub nameless : (k : ℕ) → IsNameless old.upper k → IsNameless new.upper k

-- nothing changes but that parents of p are gained, and then parents of q; the same is shown all the while
pub record GainsBoth (old new : Layers) (p q : Path) : Type 0 where
  pub mid : Layers
  pub first : GainsParents old mid p
  pub same_first : ShowsSame old mid
  pub second : GainsParents mid new q
  pub same_second : ShowsSame mid new

-- a new object for the upper that shows what this inode does, which a path shows: it has what that holds, or of a file where low says so
-- the path's spelling for the layers below as its mark
pub record CopiesInode (l : Layers) (low : Bool) (p : Path) (i : Inode) (o : Object) : Type 0 where
  pub copy : Inode
  pub is : new_inode o ≡ Some copy
  pub mark : copy.mark ≡ copy_mark low (layer_of l.upper) p i.content
  pub content : (fill (lowers_of l) copy).content ≡ i.content
  pub attributes : copy.attributes ≡ i.attributes

-- the layer gets this new inode at p, which has the further name q
pub record CopiesName (U V : Layer) (p q : Path) (i : Inode) : Type 0 where
  pub copied : Layer
  pub number : ℕ
  pub leaf : PlacesLeaf U copied p number i
  pub lawful : IsLayer U → IsLayer copied
  pub further : AddsName copied V p q
