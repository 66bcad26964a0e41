-- What the plain machine answers on the merge of layers, told by what the layers show
-- (overlayfs.rst, "Directories" and "Multiple lower layers"; POSIX.1-2017, General Concepts, Pathname Resolution, and stat(), open(), mkdir()).
use Rattle.std.specs.Prelude.{◌≡◌, ◌↔◌, ℕ, ℤ, Bool, true, false, cond, ◌||◌, List, [], ◌∷◌, Option, None, Some, nat_eq, nat_lt, is_some, is_none, length, take, drop}
use Rattle.std.specs.Cmp.Lexicographic.{slice_cmp}
use Rattle.std.specs.List.{list_any}
use Rattle.std.specs.List.Sorted.{IsStrictlySortedBy}
use Rattle.std.specs.Ordering.{nat_cmp}
use Rattle.ov_base.specs.declared.attributes.Attributes.{Attributes}
use Rattle.ov_base.specs.declared.bytes.Content.TheVariants as content
use Rattle.ov_base.specs.declared.call.CallOf.TheVariants as call
use Rattle.ov_base.specs.declared.call.OpenFlags.{OpenFlags}
use Rattle.ov_base.specs.declared.errno.Errno.{Errno}
use Rattle.ov_base.specs.declared.errno.Errno.TheVariants as errno
use Rattle.ov_base.specs.declared.node_id.NodeId.{NodeId}
use Rattle.ov_base.specs.declared.node_id.NodeId.TheVariants.{At}
use Rattle.ov_base.specs.declared.reply.ObjectKind.{ObjectKind}
use Rattle.ov_base.specs.declared.reply.ObjectKind.TheVariants as kind
use Rattle.ov_base.specs.declared.reply.Stat.{Stat}
use Rattle.ov_base.specs.declared.reply.Reply.TheVariants as reply
use Rattle.plain_model.specs.Layers.{Name, Path, Directory, Named, Inode, Layer, held, Shown, Folder, Contents, shows, under, is_directory, same_name, same_path, AreLayers}
use Rattle.plain_model.specs.Laws.{Placed}
use Rattle.plain_model.specs.Tree.{Tree, node_at, face, SeenBranch, merged, Remounts, IsKept}
use Rattle.plain_model.specs.Merging.{IsMerge}
use Rattle.plain_model.specs.Machine.{Live, Handle, State, opening, Found, look, is_found, handle_of, lowest_free}
use Rattle.plain_model.specs.Refusals.{when, walked, there, bad_mode, refusal}
use Rattle.plain_model.specs.Changes.{fresh, way_of, listing, listed_on, with_handle, after}
use Rattle.plain_model.specs.Replies.{capped, reply_of}

-- why a walk can't go on from an inode: it is a symbolic link, or no directory
abbrev pub inode_fault : Option Inode → Errno
inode_fault None = errno.ENOTDIR
inode_fault (Some i) = elim i.content [ content.File bytes ↦ errno.ENOTDIR | content.SymbolicLink target ↦ errno.ELOOP ]

-- why a walk can't go on from what is shown
abbrev pub fault : Option Shown → Option Errno
fault None = Some errno.ENOENT
fault (Some (Folder i k a)) = None
fault (Some (Contents i k inode)) = Some (inode_fault inode)

-- the first fault, where there is one
abbrev pub or_else : Option Errno → Option Errno → Option Errno
or_else None e = e
or_else (Some d) e = Some d

-- why the names of a path lead to no directory, the first from the root
abbrev pub way_fault : List Layer → Path → Option Errno
way_fault Ls [] = None
way_fault Ls (n ∷ p) = or_else (way_fault Ls p) (fault (shows 0 Ls (n ∷ p)))

-- why the parents of a path lead to no directory
abbrev pub parents_fault : List Layer → Path → Option Errno
parents_fault Ls [] = None
parents_fault Ls (n ∷ p) = way_fault Ls p

-- ENOENT where nothing is shown
abbrev pub absent : Option Shown → Option Errno
absent None = Some errno.ENOENT
absent (Some s) = None

-- why a walk to what a path shows is refused
abbrev pub walk_fault : List Layer → Path → Option Errno
walk_fault Ls p = or_else (parents_fault Ls p) (absent (shows 0 Ls p))

-- The layers are those of the mount in a state: they show its tree, the tree is one that calls keep, and all may be written.
pub record IsMountOf (U : Layer) (lowers : List Layer) (s : State) : Type 0 where
  pub layers : AreLayers (U ∷ lowers)
  pub shows : Remounts U lowers s.tree
  pub kept : IsKept s.tree s.serial
  pub writable : s.options.read_only ≡ false

-- a mount begins so, with the merge of its layers
abbrev pub LawOfBeginning : Type 0
LawOfBeginning = (U : Layer) (lowers : List Layer) (t : Tree) (redirects metacopy : Bool) (limit : ℕ) → AreLayers (U ∷ lowers) → IsMerge U lowers t → IsMountOf U lowers (opening t (record { redirects = redirects; metacopy = metacopy; read_only = false; file_limit = limit }))

-- a directory of a merge is named by its own path
abbrev pub LawOfDirectories : Type 0
LawOfDirectories =
    (U : Layer) (lowers : List Layer) (t : Tree) → AreLayers (U ∷ lowers) → IsMerge U lowers t →
    (p : Path) → is_directory (shows 0 (U ∷ lowers) p) ≡ true → node_at t p ≡ Some (At p)

-- The machine's walk of a path: its parents are refused as the layers refuse them, and so is its last name. Where something is shown
-- the walk finds a node, which looks as the layers say.
pub record Walks (U : Layer) (lowers : List Layer) (t : Tree) (p : Path) : Type 0 where
  pub to_parents : walked (look t p) ≡ parents_fault (U ∷ lowers) p
  pub to_last : there (look t p) ≡ walk_fault (U ∷ lowers) p
  pub finds : is_found (look t p) ≡ is_some (shows 0 (U ∷ lowers) p)
  pub seen : (d : NodeId) → look t p ≡ Found d → face (t d) ≡ merged U lowers p

abbrev pub LawOfWalks : Type 0
LawOfWalks = (U : Layer) (lowers : List Layer) (s : State) → IsMountOf U lowers s → (p : Path) → Walks U lowers s.tree p

abbrev pub status_by : ObjectKind → Attributes → ℕ → ℕ → Stat
status_by k a size links = record { kind = k; mode = a.mode; uid = a.uid; gid = a.gid; size = size; links = links }

-- the value of the words below where nothing is shown, which no answer gives
abbrev pub no_status : Stat
no_status = record { kind = kind.Directory; mode = 0; uid = 0; gid = 0; size = 0; links = 0 }

-- the status of an inode: the bytes of a file or of a link's target, and its link count as far as stat(2) has room
abbrev pub inode_status : Option Inode → Stat
inode_status None = no_status
inode_status (Some i) = elim i.content [
  | content.File bytes ↦ status_by kind.File i.attributes (length bytes) (capped i.links)
  | content.SymbolicLink target ↦ status_by kind.SymbolicLink i.attributes (length target) (capped i.links)
]

-- the status of what is shown: a directory has size 0 and 1 link
abbrev pub shown_status : Option Shown → Stat
shown_status None = no_status
shown_status (Some (Folder i k a)) = status_by kind.Directory a 0 1
shown_status (Some (Contents i k inode)) = inode_status inode

-- stat is refused as the walk, and else answers the status of what is shown
pub record Stats (Ls : List Layer) (s : State) (c : ℕ) (p : Path) : Type 0 where
  pub refused : refusal s c (call.Stat p) ≡ walk_fault Ls p
  pub answer : walk_fault Ls p ≡ None → reply_of s c (call.Stat p) ≡ reply.Status (shown_status (shows 0 Ls p))

abbrev pub LawOfStat : Type 0
LawOfStat = (U : Layer) (lowers : List Layer) (s : State) → IsMountOf U lowers s → (c : ℕ) (p : Path) → Stats (U ∷ lowers) s c p

-- why mkdir is refused: the mode, then the parents, then what is there
abbrev pub mkdir_fault : List Layer → Path → ℕ → Option Errno
mkdir_fault Ls p mode = or_else (bad_mode mode) (or_else (parents_fault Ls p) (when (is_some (shows 0 Ls p)) errno.EEXIST))

abbrev pub LawOfMkdir : Type 0
LawOfMkdir =
    (U : Layer) (lowers : List Layer) (s : State) → IsMountOf U lowers s → (c : ℕ) (p : Path) (mode : ℕ) →
    refusal s c (call.Mkdir p mode) ≡ mkdir_fault (U ∷ lowers) p mode

-- the flags of an open of a directory for reading
abbrev pub FOR_LISTING : OpenFlags
FOR_LISTING = record { reads = true; writes = false; create = false; exclusive = false; truncate = false; append = false; directory = true; unknown = false }

abbrev pub is_link_inode : Option Inode → Bool
is_link_inode None = false
is_link_inode (Some i) = elim i.content [ content.File bytes ↦ false | content.SymbolicLink target ↦ true ]

abbrev pub is_file_inode : Option Inode → Bool
is_file_inode None = false
is_file_inode (Some i) = elim i.content [ content.File bytes ↦ true | content.SymbolicLink target ↦ false ]

-- whether a symbolic link is shown, and whether a file is
abbrev pub shows_link : Option Shown → Bool
shows_link (Some (Contents i k inode)) = is_link_inode inode
shows_link _ = false

abbrev pub shows_file : Option Shown → Bool
shows_file (Some (Contents i k inode)) = is_file_inode inode
shows_file _ = false

-- why an open of a directory is refused: the mode, the walk, what is shown, and last the client's table, free being its lowest free descriptor
abbrev pub open_fault : List Layer → Path → ℕ → Option ℕ → Option Errno
open_fault Ls p mode free =
    or_else (bad_mode mode)
    (or_else (walk_fault Ls p)
    (or_else (when (shows_link (shows 0 Ls p)) errno.ELOOP)
    (or_else (when (shows_file (shows 0 Ls p)) errno.ENOTDIR)
    (when (is_none free) errno.EMFILE))))

-- a new handle on a directory for reading
abbrev pub listing_handle : NodeId → Option (NodeId × Name) → Handle
listing_handle d way = record { node = d; reads = true; writes = false; append = false; place = 0; way = way; view = Live; listed = None }

-- an open of a directory gives the lowest free descriptor, which leads to a new handle on the directory; all else stays
pub record OpensAs (s : State) (c : ℕ) (p : Path) (mode : ℕ) : Type 0 where
  pub node : NodeId
  pub at : node_at s.tree p ≡ Some node
  pub descriptor : ℕ
  pub free : lowest_free s.tables c ≡ Some descriptor
  pub answer : reply_of s c (call.Open p FOR_LISTING mode) ≡ reply.Descriptor descriptor
  pub state : after s c (call.Open p FOR_LISTING mode) ≡ record s { tables = with_handle s.tables c descriptor (Some (listing_handle node (way_of s.tree p))) }

-- an open of a directory is refused as the layers say, and else opens it
pub record Opens (Ls : List Layer) (s : State) (c : ℕ) (p : Path) (mode : ℕ) : Type 0 where
  pub refused : refusal s c (call.Open p FOR_LISTING mode) ≡ open_fault Ls p mode (lowest_free s.tables c)
  pub opened : open_fault Ls p mode (lowest_free s.tables c) ≡ None → OpensAs s c p mode

abbrev pub LawOfOpen : Type 0
LawOfOpen = (U : Layer) (lowers : List Layer) (s : State) → IsMountOf U lowers s → (c : ℕ) (p : Path) (mode : ℕ) → Opens (U ∷ lowers) s c p mode

-- the names shown in a directory, each once, in the order of their bytes
pub record AreShown (Ls : List Layer) (p : Path) (names : List Name) : Type 0 where
  pub sorted : IsStrictlySortedBy (slice_cmp nat_cmp) names
  pub exact : (n : Name) → list_any (same_name n) names ≡ is_some (shows 0 Ls (n ∷ p))

-- an open handle of a client on the node at a path
pub record IsOpen (s : State) (c fd : ℕ) (p : Path) (h : Handle) : Type 0 where
  pub handle : handle_of s.tables c fd ≡ Some h
  pub at : node_at s.tree p ≡ Some h.node

-- A handle that keeps no listing yet lists the names shown in its directory, and a list of exactly these in order is that listing. A call
-- is refused for its count alone, gives the next names of the listing, and leaves the handle after them; all else stays.
pub record Lists (Ls : List Layer) (s : State) (c fd : ℕ) (p : Path) (h : Handle) : Type 0 where
  pub shown : h.listed ≡ None → AreShown Ls p (listing s.tree h)
  pub alone : h.listed ≡ None → (names : List Name) → AreShown Ls p names → names ≡ listing s.tree h
  pub refused : (n : ℕ) → refusal s c (call.ListNames fd n) ≡ when (nat_eq n 0 || nat_lt 256 n) errno.EINVAL
  pub answer : (n : ℕ) → reply_of s c (call.ListNames fd n) ≡ reply.Names (take n (drop h.place (listing s.tree h)))
  pub state : (n : ℕ) → after s c (call.ListNames fd n) ≡ record s { tables = with_handle s.tables c fd (listed_on s.tree n (Some h)) }

abbrev pub LawOfList : Type 0
LawOfList =
    (U : Layer) (lowers : List Layer) (s : State) → IsMountOf U lowers s →
    (c fd : ℕ) (p : Path) → is_directory (shows 0 (U ∷ lowers) p) ≡ true → (h : Handle) → IsOpen s c fd p h → Lists (U ∷ lowers) s c fd p h

-- a handle on a node that has a name closes, and all else stays
pub record Closes (s : State) (c fd : ℕ) : Type 0 where
  pub refused : refusal s c (call.Close fd) ≡ None
  pub answer : reply_of s c (call.Close fd) ≡ reply.Done
  pub state : after s c (call.Close fd) ≡ record s { tables = with_handle s.tables c fd None }

abbrev pub LawOfClose : Type 0
LawOfClose = (U : Layer) (lowers : List Layer) (s : State) → IsMountOf U lowers s → (c fd : ℕ) (p : Path) (h : Handle) → IsOpen s c fd p h → Closes s c fd

-- a descriptor that is not open is refused
pub record IsBad (s : State) (c fd : ℕ) : Type 0 where
  pub listing : (n : ℕ) → refusal s c (call.ListNames fd n) ≡ Some errno.EBADF
  pub seeking : (offset : ℤ) (whence : ℕ) → refusal s c (call.Seek fd offset whence) ≡ Some errno.EBADF
  pub closing : refusal s c (call.Close fd) ≡ Some errno.EBADF

abbrev pub LawOfBadDescriptors : Type 0
LawOfBadDescriptors = (s : State) (c fd : ℕ) → handle_of s.tables c fd ≡ None → IsBad s c fd

-- the upper V shows all that U does over the lower layers, and a directory of its own at p; it names the same inodes
pub record Gains (U V : Layer) (lowers : List Layer) (p : Path) (a : Attributes) : Type 0 where
  pub layers : AreLayers (V ∷ lowers)
  pub sights : (q : Path) → merged V lowers q ≡ cond (same_path p q) (Some (SeenBranch a false)) (merged U lowers q)
  pub names : (q : Path) (k : ℕ) → (held V q ≡ Some (Named k)) ↔ (held U q ≡ Some (Named k))

-- a node that no path leads to
abbrev pub IsHidden : Tree → NodeId → Type 0
IsHidden t d = (p : Path) → node_at t p ≡ Some d → ⊥

-- the nodes of the first tree that no path leads to are the same in the second, and no path leads to them there
abbrev pub KeepsHidden : Tree → Tree → Type 0
KeepsHidden t u = (d : NodeId) → is_some (t d) ≡ true → IsHidden t d → (u d ≡ t d) × IsHidden u d

-- mkdir makes the mount one of the upper that gains the directory; what a path led to it leads to still, and no handle changes
pub record Makes (V : Layer) (lowers : List Layer) (s : State) (c : ℕ) (p : Path) (mode : ℕ) : Type 0 where
  pub answer : reply_of s c (call.Mkdir p mode) ≡ reply.Done
  pub mounts : IsMountOf V lowers (after s c (call.Mkdir p mode))
  pub tables : (after s c (call.Mkdir p mode)).tables ≡ s.tables
  pub stays : (q : Path) (d : NodeId) → node_at s.tree q ≡ Some d → node_at (after s c (call.Mkdir p mode)).tree q ≡ Some d
  pub hidden : KeepsHidden s.tree (after s c (call.Mkdir p mode)).tree

abbrev pub LawOfMade : Type 0
LawOfMade =
    (U V : Layer) (lowers : List Layer) (s : State) → IsMountOf U lowers s →
    (c : ℕ) (p : Path) (mode : ℕ) → mkdir_fault (U ∷ lowers) p mode ≡ None → Gains U V lowers p (fresh mode) → Makes V lowers s c p mode

-- Where the upper gets a missing parent, a directory with the attributes that are shown and no marks, the mount stays as it was.
abbrev pub LawOfPlacedParent : Type 0
LawOfPlacedParent =
    (U V : Layer) (lowers : List Layer) (s : State) → IsMountOf U lowers s → AreLayers (V ∷ lowers) →
    (n : Name) (p : Path) (i j k : ℕ) (a : Attributes) → held U (n ∷ p) ≡ None → shows 0 (U ∷ lowers) (n ∷ p) ≡ Some (Folder i j a) →
    Placed U V (n ∷ p) (Some (Directory k a false None)) → IsMountOf V lowers s

-- The upper gains a directory where nothing was shown: one without redirect, opaque exactly where the layers below show a directory.
abbrev pub LawOfPlacedDirectory : Type 0
LawOfPlacedDirectory =
    (U V : Layer) (lowers : List Layer) → AreLayers (U ∷ lowers) → AreLayers (V ∷ lowers) →
    (n : Name) (p : Path) (k : ℕ) (a : Attributes) → shows 0 (U ∷ lowers) (n ∷ p) ≡ None →
    Placed U V (n ∷ p) (Some (Directory k a (is_directory (under U lowers n p)) None)) → Gains U V lowers (n ∷ p) a
