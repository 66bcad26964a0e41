-- What symlink, readlink and an open that makes a file do on the merge of layers, told by what the layers show (POSIX.1-2017, symlink(),
-- readlink() and open(), as Linux's namei.c asks for their errors).
use Rattle.std.specs.Prelude.{◌≡◌, ◌≢◌, ◌↔◌, ℕ, Bool, false, not, cond, List, [], ◌∷◌, ◌++◌, Option, None, Some, nat_eq, nat_lt, is_some, length}
use Rattle.ov_base.specs.declared.attributes.Attributes.{Attributes}
use Rattle.ov_base.specs.declared.bytes.Content.{Content}
use Rattle.ov_base.specs.declared.bytes.Content.TheVariants as content
use Rattle.ov_base.specs.declared.call.CallOf.TheVariants as call
use Rattle.ov_base.specs.declared.call.OpenFlags.{OpenFlags}
use Rattle.ov_base.specs.declared.errno.Errno.{Errno}
use Rattle.ov_base.specs.declared.errno.Errno.TheVariants as errno
use Rattle.ov_base.specs.declared.node_id.NodeId.{NodeId}
use Rattle.ov_base.specs.declared.node_id.NodeId.TheVariants.{New}
use Rattle.ov_base.specs.declared.reply.Reply.TheVariants as reply
use Rattle.plain_model.specs.Layers.{Name, Path, Named, Inode, Layer, held, Shown, Contents, shows, same_path, AreLayers}
use Rattle.plain_model.specs.Laws.{IsOutside}
use Rattle.plain_model.specs.Tree.{node_at, Own, SeenLeaf, merged}
use Rattle.plain_model.specs.Machine.{State}
use Rattle.plain_model.specs.Refusals.{when, has_nul, refusal}
use Rattle.plain_model.specs.Changes.{fresh, after}
use Rattle.plain_model.specs.Replies.{reply_of}
use Rattle.mount_laws.specs.Looks.{or_else, parents_fault, walk_fault, shows_link, mkdir_fault, IsMountOf, KeepsHidden}

-- why symlink is refused: its target, which has 1 to 4,095 bytes and no NUL, then the parents, then what is there
abbrev pub symlink_fault : List Layer → List ℕ → Path → Option Errno
symlink_fault Ls target p =
    or_else (when (nat_lt 4095 (length target)) errno.ENAMETOOLONG)
    (or_else (when (nat_eq (length target) 0) errno.ENOENT)
    (or_else (when (has_nul target) errno.EINVAL)
    (or_else (parents_fault Ls p)
    (when (is_some (shows 0 Ls p)) errno.EEXIST))))

abbrev pub LawOfSymlink : Type 0
LawOfSymlink =
    (U : Layer) (lowers : List Layer) (s : State) → IsMountOf U lowers s → (c : ℕ) (target : List ℕ) (p : Path) →
    refusal s c (call.Symlink target p) ≡ symlink_fault (U ∷ lowers) target p

-- the target of a symbolic link, and of one that is shown; anything else has none
abbrev pub inode_target : Option Inode → Option (List ℕ)
inode_target None = None
inode_target (Some i) = elim i.content [ content.File bytes ↦ None | content.SymbolicLink target ↦ Some target ]

abbrev pub shown_target : Option Shown → Option (List ℕ)
shown_target (Some (Contents i k inode)) = inode_target inode
shown_target _ = None

-- why readlink is refused: the walk, and what is no symbolic link
abbrev pub readlink_fault : List Layer → Path → Option Errno
readlink_fault Ls p = or_else (walk_fault Ls p) (when (not (shows_link (shows 0 Ls p))) errno.EINVAL)

-- readlink is refused as the layers say, and answers the target of the link that is shown
pub record Reads (Ls : List Layer) (s : State) (c : ℕ) (p : Path) : Type 0 where
  pub refused : refusal s c (call.Readlink p) ≡ readlink_fault Ls p
  pub answer : (target : List ℕ) → shown_target (shows 0 Ls p) ≡ Some target → reply_of s c (call.Readlink p) ≡ reply.Target target

abbrev pub LawOfReadlink : Type 0
LawOfReadlink = (U : Layer) (lowers : List Layer) (s : State) → IsMountOf U lowers s → (c : ℕ) (p : Path) → Reads (U ∷ lowers) s c p

-- The upper V is U with a name of a new inode at p, which has no other, and nothing below; other inodes stay.
pub record PlacesLeaf (U V : Layer) (p : Path) (k : ℕ) (i : Inode) : Type 0 where
  pub here : held V p ≡ Some (Named k)
  pub beneath : (m : Name) (r : Path) → held V (m ∷ r ++ p) ≡ None
  pub elsewhere : (x : Path) → IsOutside p x → held V x ≡ held U x
  pub free : U.inodes k ≡ None
  pub inode : V.inodes k ≡ Some i
  pub one : i.links ≡ 1
  pub inodes : (j : ℕ) → j ≢ k → V.inodes j ≡ U.inodes j

-- The upper V shows all that U does over the lower layers, and a file or link at p, an inode of its own with no other name, whose bytes
-- are a lower file's where low says so; it names the same inodes elsewhere.
pub record GainsLeafAs (U V : Layer) (lowers : List Layer) (low : Bool) (p : Path) (content : Content) (a : Attributes) : Type 0 where
  pub layers : AreLayers (V ∷ lowers)
  pub number : ℕ
  pub here : held V p ≡ Some (Named number)
  pub alone : (q : Path) → held V q ≡ Some (Named number) → q ≡ p
  pub sights : (q : Path) → merged V lowers q ≡ cond (same_path p q) (Some (SeenLeaf content a (Own low) 1)) (merged U lowers q)
  pub names : (q : Path) (k : ℕ) → q ≢ p → (held V q ≡ Some (Named k)) ↔ (held U q ≡ Some (Named k))

-- and so a file or link with bytes of its own
abbrev pub GainsLeaf : Layer → Layer → List Layer → Path → Content → Attributes → Type 0
GainsLeaf U V lowers p content a = GainsLeafAs U V lowers false p content a

-- a new inode that is placed in the upper where nothing was shown is all that is gained
abbrev pub LawOfPlacedLeaf : Type 0
LawOfPlacedLeaf =
    (U V : Layer) (lowers : List Layer) → AreLayers (U ∷ lowers) → AreLayers (V ∷ lowers) →
    (n : Name) (p : Path) (k : ℕ) (i : Inode) → shows 0 (U ∷ lowers) (n ∷ p) ≡ None → i.mark ≡ None →
    PlacesLeaf U V (n ∷ p) k i → GainsLeaf U V lowers (n ∷ p) i.content i.attributes

-- symlink makes the mount one of the upper that gains the link; what a path led to it leads to still, and no handle changes
pub record MakesLink (V : Layer) (lowers : List Layer) (s : State) (c : ℕ) (target : List ℕ) (p : Path) : Type 0 where
  pub answer : reply_of s c (call.Symlink target p) ≡ reply.Done
  pub mounts : IsMountOf V lowers (after s c (call.Symlink target p))
  pub tables : (after s c (call.Symlink target p)).tables ≡ s.tables
  pub stays : (q : Path) (d : NodeId) → node_at s.tree q ≡ Some d → node_at (after s c (call.Symlink target p)).tree q ≡ Some d
  pub hidden : KeepsHidden s.tree (after s c (call.Symlink target p)).tree

abbrev pub LawOfLinkMade : Type 0
LawOfLinkMade =
    (U V : Layer) (lowers : List Layer) (s : State) → IsMountOf U lowers s →
    (c : ℕ) (target : List ℕ) (p : Path) → symlink_fault (U ∷ lowers) target p ≡ None →
    GainsLeaf U V lowers p (content.SymbolicLink target) (fresh 0o777) → MakesLink V lowers s c target p

-- An open that finds nothing and makes its file makes the mount one of the upper that gains the file, a new node; what a path led to it
-- leads to still. The handle is told apart.
pub record MakesFile (V : Layer) (lowers : List Layer) (s : State) (c : ℕ) (p : Path) (flags : OpenFlags) (mode : ℕ) : Type 0 where
  pub absent : node_at s.tree p ≡ None
  pub mounts : IsMountOf V lowers (after s c (call.Open p flags mode))
  pub made : node_at (after s c (call.Open p flags mode)).tree p ≡ Some (New s.serial)
  pub stays : (q : Path) (d : NodeId) → node_at s.tree q ≡ Some d → node_at (after s c (call.Open p flags mode)).tree q ≡ Some d
  pub hidden : KeepsHidden s.tree (after s c (call.Open p flags mode)).tree

abbrev pub LawOfFileMade : Type 0
LawOfFileMade =
    (U V : Layer) (lowers : List Layer) (s : State) → IsMountOf U lowers s →
    (c : ℕ) (p : Path) (flags : OpenFlags) (mode : ℕ) → mkdir_fault (U ∷ lowers) p mode ≡ None →
    GainsLeaf U V lowers p (content.File []) (fresh mode) → MakesFile V lowers s c p flags mode
