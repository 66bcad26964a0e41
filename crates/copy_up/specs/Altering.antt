-- What other attributes of what a path shows leave of the upper's objects (chmod(2), chown(2), setxattr(2), removexattr(2); overlayfs.rst,
-- "Non-directories").
use Rattle.std.specs.Prelude.{◌≡◌, ◌≢◌, ◌⊎◌, ℕ, Bool, Option, None, Some, IsSome, option_map}
use Rattle.slab.specs.Slab.{get}
use Rattle.ov_base.specs.AttributeChanges.{changed}
use Rattle.ov_base.specs.declared.attribute_change.AttributeChange.{AttributeChange}
use Rattle.ov_base.specs.declared.attributes.Attributes.{Attributes}
use Rattle.plain_model.specs.Layers.{Path, Object, Directory, Named, Inode, Layer, held, shows, AreLayers}
use Rattle.mount_laws.specs.Altered.{Alters}
use Rattle.mount_laws.specs.Attributes.{shown_attributes}
use Rattle.layer_tree.specs.Tree.{layer_of, seen_at, inode_at}
use Rattle.layer_tree.specs.Nameless.{IsNameless}
use Rattle.merged_lookup.specs.declared.layers.Layers.{Layers}
use Rattle.merged_lookup.specs.Merged.{upper_of, layers_of, lowers_of}
use Rattle.copy_up.specs.Showing.{number_of, KeepsPath}

-- a directory with other attributes; the name of an inode stays
abbrev pub object_with : Attributes → Object → Object
object_with a (Directory k was o r) = Directory k a o r
object_with a o = o

-- an inode with other attributes
abbrev pub inode_with : Attributes → Inode → Inode
inode_with a i = record i { attributes = a }

-- the attributes of the directory that is held, or of the inode that is named
abbrev pub object_attributes : Layer → Option Object → Option Attributes
object_attributes L (Some (Directory k a o r)) = Some a
object_attributes L (Some (Named k)) = option_map (λ (i : Inode). i.attributes) (L.inodes k)
object_attributes L _ = None

-- The upper has these attributes at the path, of an object that stood under this key there and keeps all else, or that is new under a
-- vacant key where nothing was held. Every other object and inode that stood is as before, every other path holds what it held, but for
-- missing parents that were gained, and what had no name has none.
pub record AltersObject (old new : Layers) (p : Path) (a : Attributes) : Type 0 where
  pub key : ℕ
  pub number : number_of (held (layer_of new.upper) p) ≡ Some key
  pub attributes : object_attributes (layer_of new.upper) (held (layer_of new.upper) p) ≡ Some a
  pub was : (number_of (held (layer_of old.upper) p) ≡ Some key) ⊎ ((held (layer_of old.upper) p ≡ None) × (get old.upper key ≡ None))
  pub stood : IsSome (get old.upper key) → (seen_at new.upper key ≡ option_map (object_with a) (seen_at old.upper key)) × (inode_at new.upper key ≡ option_map (inode_with a) (inode_at old.upper key))
  pub seen : (k : ℕ) → k ≢ key → IsSome (get old.upper k) → seen_at new.upper k ≡ seen_at old.upper k
  pub inodes : (k : ℕ) → k ≢ key → inode_at new.upper k ≡ inode_at old.upper k
  pub paths : (x : Path) → x ≢ p → KeepsPath old new p x
  pub nameless : (k : ℕ) → IsNameless old.upper k → IsNameless new.upper k

-- the path shows these attributes
abbrev pub ShowsAttributes : Layers → Path → Attributes → Type 0
ShowsAttributes l p a = shown_attributes (shows 0 (layers_of l) p) ≡ Some a

-- the path shows the attributes that it showed after a change of them, and so do the other names of its inode; nothing else is shown
-- otherwise, and where low says so the bytes of a file of lower layers stay there
abbrev pub AltersAs : Layers → Layers → Bool → Path → AttributeChange → Type 0
AltersAs old new low p x = (a : Attributes) → ShowsAttributes old p a → AreLayers (layers_of old) → Alters (upper_of old) (upper_of new) (lowers_of old) low p (changed x a)

-- the object at the path has them, and every other object is as before
abbrev pub AltersObjectAs : Layers → Layers → Path → AttributeChange → Type 0
AltersObjectAs old new p x = (a : Attributes) → ShowsAttributes old p a → AltersObject old new p (changed x a)
