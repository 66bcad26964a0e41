-- Open files that stand in the upper: what is live, and what a write and the last close make of the mount (POSIX.1-2017, open(), write()
-- and close(): a file without a name is there until its last descriptor is closed).
use Rattle.std.specs.Prelude.{◌≡◌, ◌≢◌, ◌↔◌, ℕ, true, cond, List, [], ◌∷◌, Option, None, Some, is_some}
use Rattle.ov_base.specs.declared.attributes.Attributes.{Attributes}
use Rattle.ov_base.specs.declared.bytes.Content.TheVariants.{File}
use Rattle.ov_base.specs.declared.call.CallOf.TheVariants as call
use Rattle.ov_base.specs.declared.call.OpenFlags.{OpenFlags}
use Rattle.ov_base.specs.declared.node_id.NodeId.{NodeId}
use Rattle.ov_base.specs.declared.node_id.NodeId.TheVariants.{New}
use Rattle.plain_model.specs.Layers.{Path, Named, Inode, Layer, held, Contents, shows, AreLayers}
use Rattle.plain_model.specs.Tree.{Node, Leaf, Own, Tree, node_at, put, is_folder}
use Rattle.plain_model.specs.Machine.{State}
use Rattle.plain_model.specs.Changes.{fresh, change, with_bytes, opened, after}
use Rattle.mount_laws.specs.Looks.{IsMountOf, IsHidden}
use Rattle.mount_laws.specs.Leaves.{GainsLeaf, MakesFile}

-- An open file that stands in the upper: the node is the inode of this number, and the paths that lead to the one are the names of the
-- other.
pub record IsLive (U : Layer) (t : Tree) (d : NodeId) (k : ℕ) : Type 0 where
  pub bytes : List ℕ
  pub attributes : Attributes
  pub links : ℕ
  pub mark : Option Path
  pub inode : U.inodes k ≡ Some (record { content = File bytes; attributes = attributes; links = links; mark = mark })
  pub node : t d ≡ Some (Leaf (File bytes) attributes (Own (is_some mark)) links)
  pub paths : (q : Path) → (node_at t q ≡ Some d) ↔ (held U q ≡ Some (Named k))

-- two live files, one of which has a name, are one node exactly where they are one inode
abbrev pub LawOfLiveOne : Type 0
LawOfLiveOne =
    (U : Layer) (t : Tree) (p : Path) (d e : NodeId) (k j : ℕ) → node_at t p ≡ Some d → IsLive U t d k → IsLive U t e j → (d ≡ e) ↔ (k ≡ j)

-- a file of the upper that a path shows is live
abbrev pub LawOfLiveShown : Type 0
LawOfLiveShown =
    (U : Layer) (lowers : List Layer) (s : State) → IsMountOf U lowers s →
    (p : Path) (k : ℕ) (i : Inode) (bytes : List ℕ) (d : NodeId) → shows 0 (U ∷ lowers) p ≡ Some (Contents 0 k (Some i)) →
    i.content ≡ File bytes → node_at s.tree p ≡ Some d → IsLive U s.tree d k

-- a file that an open makes is live, by the number of the inode that the upper gains
abbrev pub LawOfLiveMade : Type 0
LawOfLiveMade =
    (U V : Layer) (lowers : List Layer) (s : State) (c : ℕ) (p : Path) (flags : OpenFlags) (mode : ℕ) →
    (g : GainsLeaf U V lowers p (File []) (fresh mode)) → MakesFile V lowers s c p flags mode →
    IsLive V (after s c (call.Open p flags mode)).tree (New s.serial) g.number

-- The upper V is U with other bytes of the inode; what it holds at each path, and its other inodes, stay.
pub record WritesInode (U V : Layer) (k : ℕ) (bytes : List ℕ) : Type 0 where
  pub inode : Inode
  pub before : U.inodes k ≡ Some inode
  pub now : V.inodes k ≡ Some (record inode { content = File bytes })
  pub inodes : (j : ℕ) → j ≢ k → V.inodes j ≡ U.inodes j
  pub objects : (x : Path) → held V x ≡ held U x

-- the tree in which the file of a node has other bytes
abbrev pub rewritten : Tree → NodeId → List ℕ → Tree
rewritten t d bytes = change (with_bytes bytes) t (Some d)

-- The tree with other bytes of the node d makes the mount one of the upper V: paths lead where they led, other nodes are as they were, what
-- is a directory stays one, and d and the other live files are live.
pub record Rewrites (U V : Layer) (lowers : List Layer) (s : State) (d : NodeId) (k : ℕ) (bytes : List ℕ) : Type 0 where
  pub mounts : IsMountOf V lowers (record s { tree = rewritten s.tree d bytes })
  pub paths : (q : Path) → node_at (rewritten s.tree d bytes) q ≡ node_at s.tree q
  pub others : (e : NodeId) → e ≢ d → rewritten s.tree d bytes e ≡ s.tree e
  pub hidden : (e : NodeId) → IsHidden s.tree e → IsHidden (rewritten s.tree d bytes) e
  pub folders : (e : NodeId) → is_folder (rewritten s.tree d bytes e) ≡ is_folder (s.tree e)
  pub live : IsLive V (rewritten s.tree d bytes) d k
  pub stays : (e : NodeId) (j : ℕ) → e ≢ d → j ≢ k → IsLive U s.tree e j → IsLive V (rewritten s.tree d bytes) e j

abbrev pub LawOfWritten : Type 0
LawOfWritten =
    (U V : Layer) (lowers : List Layer) (s : State) → IsMountOf U lowers s → AreLayers (V ∷ lowers) →
    (d : NodeId) (k : ℕ) (bytes : List ℕ) → IsLive U s.tree d k → WritesInode U V k bytes → Rewrites U V lowers s d k bytes

-- The upper V is U with these bytes and this mark of the inode; what it holds at each path, and its other inodes, stay.
pub record ChangesFile (U V : Layer) (k : ℕ) (bytes : List ℕ) (mark : Option Path) : Type 0 where
  pub inode : Inode
  pub before : U.inodes k ≡ Some inode
  pub now : V.inodes k ≡ Some (record inode { content = File bytes; mark = mark })
  pub inodes : (j : ℕ) → j ≢ k → V.inodes j ≡ U.inodes j
  pub objects : (x : Path) → held V x ≡ held U x

-- The tree with the node d changed makes the mount one of the upper V: paths lead where they led, other nodes are as they were, what is a
-- directory stays one, and d and the other live files are live.
pub record AltersFile (U V : Layer) (lowers : List Layer) (s : State) (d : NodeId) (k : ℕ) (f : Node → Node) : Type 0 where
  pub mounts : IsMountOf V lowers (record s { tree = change f s.tree (Some d) })
  pub paths : (q : Path) → node_at (change f s.tree (Some d)) q ≡ node_at s.tree q
  pub others : (e : NodeId) → e ≢ d → change f s.tree (Some d) e ≡ s.tree e
  pub hidden : (e : NodeId) → IsHidden s.tree e → IsHidden (change f s.tree (Some d)) e
  pub folders : (e : NodeId) → is_folder (change f s.tree (Some d) e) ≡ is_folder (s.tree e)
  pub live : IsLive V (change f s.tree (Some d)) d k
  pub stays : (e : NodeId) (j : ℕ) → e ≢ d → j ≢ k → IsLive U s.tree e j → IsLive V (change f s.tree (Some d)) e j

-- a live file that is opened for writing, whose bytes are its own then: those that it shows, or none where it is emptied
abbrev pub LawOfChangedFile : Type 0
LawOfChangedFile =
    (U V : Layer) (lowers : List Layer) (s : State) → IsMountOf U lowers s → AreLayers (V ∷ lowers) →
    (d : NodeId) (k : ℕ) (flags : OpenFlags) → flags.writes ≡ true → (l : IsLive U s.tree d k) →
    ChangesFile U V k (cond flags.truncate [] l.bytes) None → AltersFile U V lowers s d k (opened flags)

-- The upper V is U without the inode; what it holds at each path, and its other inodes, stay.
pub record DropsInode (U V : Layer) (k : ℕ) : Type 0 where
  pub gone : V.inodes k ≡ None
  pub inodes : (j : ℕ) → j ≢ k → V.inodes j ≡ U.inodes j
  pub objects : (x : Path) → held V x ≡ held U x

-- The tree without the node d makes the mount one of the upper V: no path led to it, paths lead where they led, other nodes are as they
-- were, and so are the other live files.
pub record Forgets (U V : Layer) (lowers : List Layer) (s : State) (d : NodeId) (k : ℕ) : Type 0 where
  pub hid : IsHidden s.tree d
  pub mounts : IsMountOf V lowers (record s { tree = put s.tree d None })
  pub paths : (q : Path) → node_at (put s.tree d None) q ≡ node_at s.tree q
  pub others : (e : NodeId) → e ≢ d → put s.tree d None e ≡ s.tree e
  pub stays : (e : NodeId) (j : ℕ) → e ≢ d → j ≢ k → IsLive U s.tree e j → IsLive V (put s.tree d None) e j

-- a file without a name on which the last handle closes is forgotten
abbrev pub LawOfForgotten : Type 0
LawOfForgotten =
    (U V : Layer) (lowers : List Layer) (s : State) → IsMountOf U lowers s → AreLayers (V ∷ lowers) →
    (d : NodeId) (k : ℕ) → (l : IsLive U s.tree d k) → l.links ≡ 0 → DropsInode U V k → Forgets U V lowers s d k
