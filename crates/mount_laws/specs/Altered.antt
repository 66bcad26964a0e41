-- What chmod, chown, and the setting and deleting of a user attribute make of the mount where they are not refused (chmod(2), chown(2),
-- setxattr(2), removexattr(2); overlayfs.rst, "Non-directories": a file of a lower layer is copied up first).
use Rattle.std.specs.Prelude.{◌≡◌, ◌≢◌, ℕ, suc, Bool, ◌&&◌, List, ◌∷◌, Option, None, Some, option_map, is_some, ◌⊎◌}
use Rattle.ov_base.specs.declared.attributes.Attributes.{Attributes}
use Rattle.ov_base.specs.Calls.{Call}
use Rattle.ov_base.specs.declared.call.CallOf.TheVariants as call
use Rattle.ov_base.specs.declared.errno.Errno.{Errno}
use Rattle.ov_base.specs.declared.node_id.NodeId.{NodeId}
use Rattle.ov_base.specs.declared.redirect.Redirect.{Redirect}
use Rattle.ov_base.specs.declared.reply.Reply.TheVariants as reply
use Rattle.plain_model.specs.Layers.{Name, Path, Directory, Named, Inode, Layer, held, Contents, shows, is_file, AreLayers}
use Rattle.plain_model.specs.Tree.{node_at, Own, Untouched, Sight, SeenBranch, SeenLeaf, merged, AreLinked, is_folder}
use Rattle.plain_model.specs.Machine.{State}
use Rattle.plain_model.specs.Changes.{with_mode, with_owner, set_value, drop_value, after}
use Rattle.plain_model.specs.Replies.{reply_of}
use Rattle.mount_laws.specs.Looks.{IsMountOf, KeepsHidden}
use Rattle.mount_laws.specs.Leaves.{PlacesLeaf}
use Rattle.mount_laws.specs.Attributes.{shown_attributes, chown_fault, chmod_fault, set_fault, get_fault}

-- what is seen with other attributes: a file or link of a lower layer is the upper's own then, and has one name
abbrev pub altered : Bool → Attributes → Sight → Sight
altered low a (SeenBranch old b) = SeenBranch a b
altered low a (SeenLeaf content old (Own m) l) = SeenLeaf content a (Own m) l
altered low a (SeenLeaf content old (Untouched k) l) = SeenLeaf content a (Own (low && is_file content)) 1

-- The upper V shows all that U does over the lower layers, but with the attributes a at p and at the other names of its inode. Two paths
-- name one inode of V where they do in U; one path may have an inode of its own there that it had not.
pub record Alters (U V : Layer) (lowers : List Layer) (low : Bool) (p : Path) (a : Attributes) : Type 0 where
  pub layers : AreLayers (V ∷ lowers)
  pub here : merged V lowers p ≡ option_map (altered low a) (merged U lowers p)
  pub linked : (q : Path) → q ≢ p → AreLinked U p q → merged V lowers q ≡ option_map (altered low a) (merged U lowers q)
  pub others : (q : Path) → q ≢ p → (AreLinked U p q → ⊥) → merged V lowers q ≡ merged U lowers q
  pub earlier : (q z : Path) → AreLinked V q z → (q ≡ z) ⊎ AreLinked U q z
  pub later : (q z : Path) → AreLinked U q z → AreLinked V q z

-- The call makes the mount one of the upper that shows other attributes at p: paths lead where they led, no handle changes, what is a
-- directory stays one, and nodes that p doesn't lead to are as they were.
pub record AltersState (V : Layer) (lowers : List Layer) (s : State) (c : ℕ) (p : Path) (change : Call) : Type 0 where
  pub answer : reply_of s c change ≡ reply.Done
  pub mounts : IsMountOf V lowers (after s c change)
  pub tables : (after s c change).tables ≡ s.tables
  pub paths : (q : Path) → node_at (after s c change).tree q ≡ node_at s.tree q
  pub hidden : KeepsHidden s.tree (after s c change).tree
  pub others : (d : NodeId) → (node_at s.tree p ≡ Some d → ⊥) → (after s c change).tree d ≡ s.tree d
  pub folders : (d : NodeId) → is_folder ((after s c change).tree d) ≡ is_folder (s.tree d)

-- a call that changes p's attributes by f, and is refused as the layers say, makes the mount one of an upper that shows them so
abbrev pub AltersBy : (Attributes → Attributes) → Path → (List Layer → Option Errno) → Call → Type 0
AltersBy f p fault change =
    (U V : Layer) (lowers : List Layer) (s : State) → IsMountOf U lowers s →
    (c : ℕ) → fault (U ∷ lowers) ≡ None →
    (a : Attributes) → shown_attributes (shows 0 (U ∷ lowers) p) ≡ Some a → Alters U V lowers s.options.metacopy p (f a) → AltersState V lowers s c p change

abbrev pub LawOfModeChanged : Type 0
LawOfModeChanged = (p : Path) (mode : ℕ) → AltersBy (with_mode mode) p (λ Ls. chmod_fault Ls p mode) (call.Chmod p mode)

abbrev pub LawOfOwnerChanged : Type 0
LawOfOwnerChanged = (p : Path) (uid gid : ℕ) → AltersBy (with_owner uid gid) p (λ Ls. chown_fault Ls p) (call.Chown p uid gid)

abbrev pub LawOfAttributeSet : Type 0
LawOfAttributeSet = (p : Path) (n v : List ℕ) → AltersBy (λ a. record a { user = set_value a.user n v }) p (λ Ls. set_fault Ls p n v) (call.SetAttribute p n v)

abbrev pub LawOfAttributeDeleted : Type 0
LawOfAttributeDeleted = (p : Path) (n : List ℕ) → AltersBy (λ a. record a { user = drop_value a.user n }) p (λ Ls. get_fault Ls p n) (call.DeleteAttribute p n)

-- A file or link of a lower layer that is copied up, as an inode of its own with the attributes a, is altered and no more.
abbrev pub LawOfCopiedLeaf : Type 0
LawOfCopiedLeaf =
    (U V : Layer) (lowers : List Layer) → AreLayers (U ∷ lowers) → AreLayers (V ∷ lowers) →
    (n : Name) (p : Path) (j l k : ℕ) (i : Inode) (a : Attributes) → shows 0 (U ∷ lowers) (n ∷ p) ≡ Some (Contents (suc j) l (Some i)) →
    (low : Bool) (mark : Option Path) → is_some mark ≡ (low && is_file i.content) →
    PlacesLeaf U V (n ∷ p) k (record { content = i.content; attributes = a; links = 1; mark = mark }) → Alters U V lowers low (n ∷ p) a

-- The upper V is U with the attributes a of the inode that p names; what it holds at each path, and its other inodes, stay.
pub record AltersInode (U V : Layer) (p : Path) (a : Attributes) : Type 0 where
  pub number : ℕ
  pub inode : Inode
  pub named : held U p ≡ Some (Named number)
  pub before : U.inodes number ≡ Some inode
  pub now : V.inodes number ≡ Some (record inode { attributes = a })
  pub inodes : (k : ℕ) → k ≢ number → V.inodes k ≡ U.inodes k
  pub objects : (x : Path) → held V x ≡ held U x

abbrev pub LawOfAlteredInode : Type 0
LawOfAlteredInode = (U V : Layer) (lowers : List Layer) → AreLayers (V ∷ lowers) → (low : Bool) (p : Path) (a : Attributes) → AltersInode U V p a → Alters U V lowers low p a

-- The upper V is U with the attributes a of the directory at p, whose number and marks stay; what it holds at other paths, and its
-- inodes, stay.
pub record AltersDirectory (U V : Layer) (p : Path) (a : Attributes) : Type 0 where
  pub number : ℕ
  pub old : Attributes
  pub opaque : Bool
  pub redirect : Option Redirect
  pub before : held U p ≡ Some (Directory number old opaque redirect)
  pub now : held V p ≡ Some (Directory number a opaque redirect)
  pub elsewhere : (x : Path) → x ≢ p → held V x ≡ held U x
  pub inodes : (k : ℕ) → V.inodes k ≡ U.inodes k

abbrev pub LawOfAlteredDirectory : Type 0
LawOfAlteredDirectory = (U V : Layer) (lowers : List Layer) → AreLayers (V ∷ lowers) → (low : Bool) (p : Path) (a : Attributes) → AltersDirectory U V p a → Alters U V lowers low p a
