-- What link does on the merge of layers, told by what the layers show (link(2) and POSIX.1-2017, link(), as Linux's namei.c asks for its
-- errors; overlayfs.rst, "Non-directories": a file of a lower layer is copied up first).
use Rattle.std.specs.Prelude.{◌≡◌, ◌≢◌, ℕ, suc, ◌+◌, Bool, ◌&&◌, List, ◌∷◌, ◌++◌, Option, None, Some, is_some, option_map, ◌⊎◌}
use Rattle.ov_base.specs.declared.call.CallOf.TheVariants as call
use Rattle.ov_base.specs.declared.errno.Errno.{Errno}
use Rattle.ov_base.specs.declared.errno.Errno.TheVariants as errno
use Rattle.ov_base.specs.declared.node_id.NodeId.{NodeId}
use Rattle.ov_base.specs.declared.reply.Reply.TheVariants as reply
use Rattle.plain_model.specs.Layers.{Name, Path, Named, Inode, Layer, held, Contents, shows, is_directory, is_file, AreLayers}
use Rattle.plain_model.specs.Laws.{IsOutside}
use Rattle.plain_model.specs.Tree.{node_at, Own, Untouched, Sight, SeenBranch, SeenLeaf, merged, AreLinked}
use Rattle.plain_model.specs.Machine.{State}
use Rattle.plain_model.specs.Refusals.{when, refusal}
use Rattle.plain_model.specs.Changes.{after}
use Rattle.plain_model.specs.Replies.{reply_of}
use Rattle.mount_laws.specs.Looks.{or_else, parents_fault, walk_fault, IsMountOf, KeepsHidden}
use Rattle.mount_laws.specs.Altered.{Alters}

-- why link is refused: the walk of the old path, the parents of the new one, what is there, and last a directory at the old one
abbrev pub link_fault : List Layer → Path → Path → Option Errno
link_fault Ls old new =
    or_else (walk_fault Ls old)
    (or_else (parents_fault Ls new)
    (or_else (when (is_some (shows 0 Ls new)) errno.EEXIST)
    (when (is_directory (shows 0 Ls old)) errno.EPERM)))

abbrev pub LawOfLink : Type 0
LawOfLink =
    (U : Layer) (lowers : List Layer) (s : State) → IsMountOf U lowers s → (c : ℕ) (old new : Path) →
    refusal s c (call.Hardlink old new) ≡ link_fault (U ∷ lowers) old new

-- The upper V is U with a further name at q, and nothing below, of the inode that p names, which has one name more; what it holds at
-- other paths, and its other inodes, stay.
pub record AddsName (U V : Layer) (p q : Path) : Type 0 where
  pub number : ℕ
  pub inode : Inode
  pub source : held U p ≡ Some (Named number)
  pub before : U.inodes number ≡ Some inode
  pub now : V.inodes number ≡ Some (record inode { links = inode.links + 1 })
  pub inodes : (k : ℕ) → k ≢ number → V.inodes k ≡ U.inodes k
  pub here : held V q ≡ Some (Named number)
  pub beneath : (m : Name) (r : Path) → held V (m ∷ r ++ q) ≡ None
  pub elsewhere : (x : Path) → IsOutside q x → held V x ≡ held U x

-- what is seen of a file or link with a name more: one of a lower layer is the upper's own then, and has two
abbrev pub linked_sight : Bool → Sight → Sight
linked_sight low (SeenBranch a b) = SeenBranch a b
linked_sight low (SeenLeaf content a (Own m) l) = SeenLeaf content a (Own m) (l + 1)
linked_sight low (SeenLeaf content a (Untouched k) l) = SeenLeaf content a (Own (low && is_file content)) 2

-- The upper V shows all that U does over the lower layers, and at q what p shows, one inode of the upper; at all its names one name more
-- is shown. Other paths name one inode of V exactly where they do in U.
pub record GainsName (U V : Layer) (lowers : List Layer) (low : Bool) (p q : Path) : Type 0 where
  pub layers : AreLayers (V ∷ lowers)
  pub here : merged V lowers p ≡ option_map (linked_sight low) (merged U lowers p)
  pub there : merged V lowers q ≡ option_map (linked_sight low) (merged U lowers p)
  pub together : AreLinked V p q
  pub linked : (x : Path) → x ≢ p → x ≢ q → AreLinked U p x → merged V lowers x ≡ option_map (linked_sight low) (merged U lowers x)
  pub others : (x : Path) → x ≢ p → x ≢ q → (AreLinked U p x → ⊥) → merged V lowers x ≡ merged U lowers x
  pub earlier : (x z : Path) → x ≢ q → z ≢ q → AreLinked V x z → (x ≡ z) ⊎ AreLinked U x z
  pub later : (x z : Path) → AreLinked U x z → AreLinked V x z
  pub at : (x : Path) → x ≢ q → AreLinked V x q → (x ≡ p) ⊎ AreLinked U p x

-- a further name of an inode of the upper, where nothing was shown, is all that is gained
abbrev pub LawOfAddedName : Type 0
LawOfAddedName =
    (U V : Layer) (lowers : List Layer) → AreLayers (U ∷ lowers) → AreLayers (V ∷ lowers) →
    (low : Bool) (p : Path) (n : Name) (q : Path) → shows 0 (U ∷ lowers) (n ∷ q) ≡ None →
    AddsName U V p (n ∷ q) → GainsName U V lowers low p (n ∷ q)

-- so it is where p shows a file or link of a lower layer, which is copied up first, to W, with the attributes that it shows
abbrev pub LawOfCopiedName : Type 0
LawOfCopiedName =
    (U W V : Layer) (lowers : List Layer) (low : Bool) (p q : Path) (j l : ℕ) (i : Inode) → shows 0 (U ∷ lowers) p ≡ Some (Contents (suc j) l (Some i)) →
    Alters U W lowers low p i.attributes → GainsName W V lowers low p q → GainsName U V lowers low p q

-- link makes the mount one of the upper that gains the name, which leads to the node that the old path leads to; what a path led to it
-- leads to still, and no handle changes
pub record MakesName (V : Layer) (lowers : List Layer) (s : State) (c : ℕ) (old new : Path) : Type 0 where
  pub answer : reply_of s c (call.Hardlink old new) ≡ reply.Done
  pub mounts : IsMountOf V lowers (after s c (call.Hardlink old new))
  pub tables : (after s c (call.Hardlink old new)).tables ≡ s.tables
  pub stays : (x : Path) (d : NodeId) → node_at s.tree x ≡ Some d → node_at (after s c (call.Hardlink old new)).tree x ≡ Some d
  pub joined : node_at (after s c (call.Hardlink old new)).tree new ≡ node_at s.tree old
  pub hidden : KeepsHidden s.tree (after s c (call.Hardlink old new)).tree

abbrev pub LawOfNameMade : Type 0
LawOfNameMade =
    (U V : Layer) (lowers : List Layer) (s : State) → IsMountOf U lowers s →
    (c : ℕ) (old new : Path) → link_fault (U ∷ lowers) old new ≡ None →
    GainsName U V lowers s.options.metacopy old new → MakesName V lowers s c old new
