-- The state of the plain machine: the tree, and for each attached client its open handles and its watches
-- (POSIX.1-2017, 2.14 File Descriptor Allocation and Base Definitions, Pathname Resolution; overlayfs.rst, "Non-standard behavior").
use Rattle.std.specs.Prelude.{ℕ, Bool, true, false, not, cond, ◌||◌, List, [], ◌∷◌, Option, None, Some, nat_eq, is_none, length, find, position, replicate, slice_get}
use Rattle.std.specs.FinMap as fin
use Rattle.ov_base.specs.declared.attributes.Attributes.{Attributes}
use Rattle.ov_base.specs.declared.bytes.Content.TheVariants.{File, SymbolicLink}
use Rattle.ov_base.specs.declared.errno.Errno.{Errno}
use Rattle.ov_base.specs.declared.errno.Errno.TheVariants.{ENOENT, ENOTDIR, ELOOP}
use Rattle.ov_base.specs.declared.node_id.NodeId.{NodeId}
pub use Rattle.ov_base.specs.UserValues.{value_of}
use Rattle.plain_model.specs.Layers.{Name, Path, same_path}
use Rattle.plain_model.specs.Tree.{same_id, Node, Branch, Leaf, Tree, root, node_of}
use Rattle.plain_model.specs.Watching.{Watch, Instance}

-- What a handle sees: its node as it is; or, where it was opened for reading alone on a file whose bytes were a lower layer's, these
-- bytes, and, where the file was untouched, its attributes and link count of that moment too.
pub data View : Type 0 where
  Live : View
  Kept : List ℕ → View
  Frozen : List ℕ → Attributes → ℕ → View

-- An open handle: its node, access, whether writes go to the end, its place in bytes or names, the directory and name by which it was
-- opened, what it sees, and the listing that it keeps.
pub record Handle : Type 0 where
  pub node : NodeId
  pub reads : Bool
  pub writes : Bool
  pub append : Bool
  pub place : ℕ
  pub way : Option (NodeId × Name)
  pub view : View
  pub listed : Option (List Name)

-- the most descriptors of a client
abbrev pub DESCRIPTORS_MAX : ℕ
DESCRIPTORS_MAX = 64

-- the descriptors of an attached client
pub record Table : Type 0 where
  pub client : ℕ
  pub handles : List (Option Handle)

-- a client's descriptors as it begins: all free
abbrev pub free_table : ℕ → Table
free_table c = record { client = c; handles = replicate DESCRIPTORS_MAX None }

-- What a mount was told as it began: whether renames of directories that lower layers have make redirects, whether files are copied up
-- without their bytes where these don't change, whether nothing may be written, and the most bytes that a write or a truncate may give a
-- file.
pub record MountOptions : Type 0 where
  pub redirects : Bool
  pub metacopy : Bool
  pub read_only : Bool
  pub file_limit : ℕ

-- The state: the tree, the next new node's serial, how many renames moved something, the next client's number, the mount's options, and
-- for each attached client, in the order of their numbers, its descriptors and its inotify instance.
pub record State : Type 0 where
  pub tree : Tree
  pub serial : ℕ
  pub renames : ℕ
  pub arrived : ℕ
  pub options : MountOptions
  pub tables : List Table
  pub instances : List Instance

-- the state as it is where all may be written
abbrev pub writable : State → State
writable s = record s { options = record s.options { read_only = false } }

-- the state of a mount as it begins
abbrev pub opening : Tree → MountOptions → State
opening t options = record { tree = t; serial = 0; renames = 0; arrived = 0; options = options; tables = []; instances = [] }

-- where a path leads: to a node, or its last name is absent from a directory, or it is refused
pub data Look : Type 0 where
  Found : NodeId → Look
  Absent : NodeId → Look
  Fails : Errno → Look

-- a name in the directory d, where it leads to e
abbrev pub within : NodeId → Option NodeId → Look
within d None = Absent d
within d (Some e) = Found e

-- one name on from a node: through a file is ENOTDIR, through a symbolic link ELOOP
abbrev pub enter : NodeId → Option Node → Name → Look
enter d (Some (Branch a b names c)) n = within d (fin.get names n)
enter d (Some (Leaf (File bytes) a u l)) n = Fails ENOTDIR
enter d (Some (Leaf (SymbolicLink target) a u l)) n = Fails ELOOP
enter d None n = Fails ENOENT

-- one name on: through an absent name is ENOENT
abbrev pub into : Tree → Name → Look → Look
into t n (Found d) = enter d (t d) n
into t n (Absent d) = Fails ENOENT
into t n (Fails e) = Fails e

-- The walk of a path, from the root. What it finds is what `node_at` gives; where it finds nothing,
-- `node_at` gives none, and the walk says why.
abbrev pub look : Tree → Path → Look
look t [] = Found root
look t (n ∷ p) = into t n (look t p)

abbrev pub is_found : Look → Bool
is_found (Found d) = true
is_found _ = false

abbrev pub found : Look → Option NodeId
found (Found d) = Some d
found _ = None

-- the node that a walk leads to
abbrev pub node_found : Tree → Look → Option Node
node_found t l = node_of t (found l)

-- whether two walks lead to one node
abbrev pub same_found : Look → Look → Bool
same_found (Found d) (Found e) = same_id d e
same_found _ _ = false

abbrev pub is_root : Path → Bool
is_root [] = true
is_root (n ∷ p) = false

-- whether q is below p
abbrev pub is_below : Path → Path → Bool
is_below p [] = false
is_below p (n ∷ q) = same_path p q || is_below p q

abbrev pub is_link : Option Node → Bool
is_link (Some (Leaf (SymbolicLink target) a u l)) = true
is_link _ = false

-- whether a directory has a name
abbrev pub has_names : Option Node → Bool
has_names (Some (Branch a b names c)) = not (nat_eq (fin.len names) 0)
has_names _ = false

-- whether a directory is base: a lower layer has it too
abbrev pub is_base : Option Node → Bool
is_base (Some (Branch a b names c)) = b
is_base _ = false

-- the user attributes of a node, in the order in which they were set
abbrev pub user_of : Option Node → List (List ℕ × List ℕ)
user_of (Some (Branch a b names c)) = a.user
user_of (Some (Leaf content a u l)) = a.user
user_of None = []

-- the bytes of a file, and the target of a link
abbrev pub bytes_of_node : Option Node → List ℕ
bytes_of_node (Some (Leaf (File bytes) a u l)) = bytes
bytes_of_node (Some (Leaf (SymbolicLink target) a u l)) = target
bytes_of_node _ = []

-- the handles of a client
abbrev pub handles_of : List Table → ℕ → List (Option Handle)
handles_of [] c = []
handles_of (k ∷ ks) c = cond (nat_eq k.client c) k.handles (handles_of ks c)

abbrev pub held_in : Option (Option Handle) → Option Handle
held_in (Some (Some h)) = Some h
held_in _ = None

-- the open handle of a client's descriptor
abbrev pub handle_of : List Table → ℕ → ℕ → Option Handle
handle_of ks c fd = held_in (slice_get (handles_of ks c) fd)

-- the lowest free descriptor
abbrev pub lowest_free : List Table → ℕ → Option ℕ
lowest_free ks c = position is_none (handles_of ks c)

-- the node of a handle
abbrev pub handle_node : Tree → Option Handle → Option Node
handle_node t None = None
handle_node t (Some h) = t h.node

abbrev pub bytes_seen : View → Option Node → List ℕ
bytes_seen Live o = bytes_of_node o
bytes_seen (Kept bytes) o = bytes
bytes_seen (Frozen bytes a l) o = bytes

-- the bytes that a handle reads
abbrev pub bytes_of : Tree → Option Handle → List ℕ
bytes_of t None = []
bytes_of t (Some h) = bytes_seen h.view (t h.node)

abbrev pub place_of : Option Handle → ℕ
place_of None = 0
place_of (Some h) = h.place

-- where a write begins
abbrev pub write_place : Tree → Option Handle → ℕ
write_place t None = 0
write_place t (Some h) = cond h.append (length (bytes_of_node (t h.node))) h.place

-- from where a seek counts: the start, the place, or the end
abbrev pub seek_base : Tree → Option Handle → ℕ → ℕ
seek_base t h whence = cond (nat_eq whence 0) 0 (cond (nat_eq whence 1) (place_of h) (length (bytes_of t h)))

-- the instance of a client
abbrev pub instance_of : List Instance → ℕ → Option Instance
instance_of es c = find (λ e. nat_eq e.client c) es

-- how many hooks an instance has
abbrev pub hooks_of : Option Instance → ℕ
hooks_of None = 0
hooks_of (Some e) = length e.tags

abbrev pub watches_of : Option Instance → List Watch
watches_of None = []
watches_of (Some e) = e.watches

-- how many watch numbers an instance was given
abbrev pub armed_of : Option Instance → ℕ
armed_of None = 0
armed_of (Some e) = e.armed

-- the watch on a node
abbrev pub watch_on : List Watch → Option NodeId → Option Watch
watch_on ws None = None
watch_on ws (Some d) = find (λ w. same_id d w.node) ws
