-- What a contract sees of a layer: the objects under their keys, and from these what the layer holds at each path.
use Rattle.std.specs.Prelude.{◌≡◌, ◌≢◌, ℕ, ◌+◌, ◌-◌, ◌≤◌, Bool, true, false, List, [], ◌∷◌, ◌++◌, Option, Some, None, IsSome, is_some, IsTrue, option_map, length, map, take, drop, replicate}
use Rattle.std.specs.Option.{option_and_then, option_map_or}
use Rattle.slab.specs.Slab.{Slab, get, slab_len}
use Rattle.ov_base.specs.declared.attributes.Attributes.{Attributes}
use Rattle.ov_base.specs.declared.bytes.Content.{Content}
use Rattle.ov_base.specs.declared.bytes.Content.TheVariants as content
use Rattle.ov_base.specs.declared.redirect.Redirect.{Redirect}
use Rattle.ov_base.specs.declared.redirect.Redirect.TheVariants as redirect
use Rattle.plain_model.specs.Layers as layers
use Rattle.plain_model.specs.Layers.{Layer, Path, held}
use Rattle.layer_tree.specs.Table.{Table, entry_in, object_key}
use Rattle.layer_tree.specs.Walk.{walk, Rebinds}
use Rattle.layer_tree.specs.Places.{HasNames}
use Rattle.layer_tree.specs.declared.name_table.Entry.{Entry}
use Rattle.layer_tree.specs.declared.name_table.Entry.TheVariants as bound
use Rattle.layer_tree.specs.declared.node.Marks.{Marks}
use Rattle.layer_tree.specs.declared.node.Node.{Node}
use Rattle.layer_tree.specs.declared.node.Node.TheVariants as node
use Rattle.layer_tree.specs.declared.node.Object.{Object}
use Rattle.layer_tree.specs.declared.node.Object.TheVariants as object

abbrev pub Tree : Type 0
Tree = Slab Node

abbrev pub ROOT : ℕ
ROOT = 0

-- the table of a directory, and none for other objects
abbrev pub table_of : Node → Option Table
table_of (node.Directory d) = Some d.names
table_of (node.Inode i) = None

-- the marks of a directory
abbrev pub marks_of : Node → Option Marks
marks_of (node.Directory d) = Some d.marks
marks_of (node.Inode i) = None

-- the inode of a file or symbolic link
abbrev pub inode_of : Node → Option layers.Inode
inode_of (node.Directory d) = None
inode_of (node.Inode i) = Some (record { content = i.content; attributes = i.attributes; links = i.links; mark = option_map (λ b. b.value) i.mark })

-- what a layer holds where this object stands under a key
abbrev pub seen : ℕ → Node → layers.Object
seen key (node.Directory d) = layers.Directory key d.attributes d.marks.opaque d.marks.redirect
seen key (node.Inode i) = layers.Named key

-- the bytes of a file
abbrev pub file_bytes : Content → Option (List ℕ)
file_bytes (content.File bytes) = Some bytes
file_bytes (content.SymbolicLink target) = None

-- what a directory has at a name: an object's key or a whiteout
abbrev pub entry : Tree → ℕ → List ℕ → Option Entry
entry t dir name = option_and_then (λ table. entry_in table name) (option_and_then table_of (get t dir))

-- the key of the object at a name in a directory
abbrev pub child : Tree → ℕ → List ℕ → Option ℕ
child t dir name = option_and_then object_key (entry t dir name)

-- the key of the object at a path
abbrev pub key_at : Tree → Path → Option ℕ
key_at t path = walk (child t) ROOT path

-- what stands at a path: an object's key or a whiteout
abbrev pub entry_at : Tree → Path → Option Entry
entry_at t [] = Some (bound.Object ROOT)
entry_at t (name ∷ path) = option_and_then (λ key. entry t key name) (key_at t path)

-- what a layer holds where the object under a key stands
abbrev pub seen_at : Tree → ℕ → Option layers.Object
seen_at t key = option_map (seen key) (get t key)

-- what a layer holds where this entry stands
abbrev pub seen_entry : Tree → Entry → Option layers.Object
seen_entry t (bound.Object key) = seen_at t key
seen_entry t bound.Whiteout = Some layers.Whiteout

-- the inode under a key
abbrev pub inode_at : Tree → ℕ → Option layers.Inode
inode_at t key = option_and_then inode_of (get t key)

-- the marks of the directory under a key
abbrev pub marks_at : Tree → ℕ → Option Marks
marks_at t key = option_and_then marks_of (get t key)

-- the bytes of the file under a key
abbrev pub bytes_at : Tree → ℕ → Option (List ℕ)
bytes_at t key = option_and_then (λ (i : layers.Inode). file_bytes i.content) (inode_at t key)

-- the bytes of a file that bears no mark: those of a marked one aren't its own
abbrev pub unmarked_bytes : Option Path → Content → Option (List ℕ)
unmarked_bytes None c = file_bytes c
unmarked_bytes (Some q) c = None

-- the bytes of the file under a key that has bytes of its own
abbrev pub own_at : Tree → ℕ → Option (List ℕ)
own_at t key = option_and_then (λ (i : layers.Inode). unmarked_bytes i.mark i.content) (inode_at t key)

-- the mark of the file under a key
abbrev pub mark_at : Tree → ℕ → Option Path
mark_at t key = option_and_then (λ (i : layers.Inode). i.mark) (inode_at t key)

-- an inode of the layer bears a mark
abbrev pub HasMark : Layer → Type 0
HasMark L = (key : ℕ) × (i : layers.Inode) × (L.inodes key ≡ Some i) × (is_some i.mark ≡ true)

-- the attributes of a directory, and none set for anything else
abbrev pub directory_attributes : Option layers.Object → Attributes
directory_attributes (Some (layers.Directory key a opaque r)) = a
directory_attributes _ = record { mode = 0; uid = 0; gid = 0; user = [] }

-- the attributes of the root
abbrev pub root_attributes : Tree → Attributes
root_attributes t = directory_attributes (seen_at t ROOT)

-- what a layer holds below its root
abbrev pub object_at : Tree → Path → Option layers.Object
object_at t path = option_and_then (seen_entry t) (entry_at t path)

-- THE LAYER: what it holds at each path, and its inodes by their keys
abbrev pub layer_of : Tree → Layer
layer_of t =
    record {
      root = root_attributes t;
      objects = object_at t;
      inodes = inode_at t;
    }

-- the layers that a mount is given, the upper first, if there is one
abbrev pub layers_given : Option Tree → List Tree → List Layer
layers_given None lowers = map layer_of lowers
layers_given (Some upper) lowers = layer_of upper ∷ map layer_of lowers

abbrev pub IsDirectory : Tree → ℕ → Type 0
IsDirectory t key = IsSome (option_and_then table_of (get t key))

-- how many more names fit into the directory with no allocation
abbrev pub names_room : Tree → ℕ → ℕ
names_room t dir = option_map_or (λ table. table.spare) (option_and_then table_of (get t dir)) 0

-- an absolute redirect has at least one name
abbrev pub leads : Option Redirect → Bool
leads (Some (redirect.Absolute [])) = false
leads _ = true

abbrev pub leads_on : Option layers.Object → Bool
leads_on (Some (layers.Directory key a opaque r)) = leads r
leads_on _ = true

-- a directory without marks
abbrev pub IsUnmarked : Option layers.Object → Type 0
IsUnmarked (Some (layers.Directory key a opaque r)) = (opaque ≡ false) × (r ≡ None)
IsUnmarked _ = ⊥

-- the root is a directory without marks, and no name leads to it; each name leads to an object; a directory has at most one name;
-- an absolute redirect has at least one name; the link count of an inode is the number of its names
pub record IsTree (t : Tree) : Type 0 where
  pub root : IsUnmarked (seen_at t ROOT)
  pub root_unnamed : (dir : ℕ) (name : List ℕ) → child t dir name ≢ Some ROOT
  pub present : (dir : ℕ) (name : List ℕ) (key : ℕ) → child t dir name ≡ Some key → IsSome (get t key)
  pub one_name : (dir other : ℕ) (name second : List ℕ) (key : ℕ) → child t dir name ≡ Some key → child t other second ≡ Some key → IsDirectory t key → (dir ≡ other) × (name ≡ second)
  pub redirects : (key : ℕ) → IsTrue (leads_on (seen_at t key))
  pub links : (key : ℕ) (i : layers.Inode) → inode_at t key ≡ Some i → HasNames (child t) key i.links

-- the number of a directory that is held
abbrev pub directory_number : Option layers.Object → Option ℕ
directory_number (Some (layers.Directory key a opaque r)) = Some key
directory_number _ = None

-- What a layer keeps: the parent of a held path is a directory, an absolute redirect has at least one name, a named inode is there, and
-- a number tells a directory apart from all others.
pub record IsHeldTogether (L : Layer) : Type 0 where
  pub parents : (name : List ℕ) (path : Path) → is_some (held L (name ∷ path)) ≡ true → layers.holds_directory (held L path) ≡ true
  pub redirects : (path : Path) (key : ℕ) (a : Attributes) (opaque : Bool) (target : Path) → held L path ≡ Some (layers.Directory key a opaque (Some (redirect.Absolute target))) → target ≢ []
  pub present : (path : Path) (key : ℕ) → held L path ≡ Some (layers.Named key) → is_some (L.inodes key) ≡ true
  pub one_path : (path other : Path) (key : ℕ) → directory_number (held L path) ≡ Some key → directory_number (held L other) ≡ Some key → path ≡ other

-- what a layer holds where a new object stands under a key
abbrev pub seen_object : ℕ → Object → layers.Object
seen_object key (object.Directory a m) = layers.Directory key a m.opaque m.redirect
seen_object key (object.Inode c a) = layers.Named key
seen_object key (object.Marked q a) = layers.Named key

-- the inode of a new object, which has one name
abbrev pub new_inode : Object → Option layers.Inode
new_inode (object.Directory a m) = None
new_inode (object.Inode c a) = Some (record { content = c; attributes = a; links = 1; mark = None })
new_inode (object.Marked q a) = Some (record { content = content.File []; attributes = a; links = 1; mark = Some q.value })

-- the inode with one name less
abbrev pub with_less : layers.Inode → layers.Inode
with_less i = record i { links = i.links - 1 }

-- the bytes with others laid over them from a place on, and zero bytes between their end and that place
abbrev pub written : List ℕ → ℕ → List ℕ → List ℕ
written bytes start new = (take start bytes ++ replicate (start - length bytes) 0) ++ new ++ drop (start + length new) bytes

-- the inode with these bytes of its own
abbrev pub with_bytes : List ℕ → layers.Inode → layers.Inode
with_bytes bytes i = record i { content = content.File bytes; mark = None }

-- the new layer has this at the path, and at every other path what the old one has
pub record SetsPath (old new : Layer) (path : Path) (o : layers.Object) : Type 0 where
  pub there : held new path ≡ Some o
  pub elsewhere : (other : Path) → other ≢ path → held new other ≡ held old other

-- the new layer has this at the path and nothing below it, and at every other path what the old one has
pub record ReplacesPath (old new : Layer) (path : Path) (o : Option layers.Object) : Type 0 where
  pub there : held new path ≡ o
  pub below : (name : List ℕ) (rest : Path) → held new (name ∷ (rest ++ path)) ≡ None
  pub elsewhere : (other : Path) → ((rest : Path) → other ≢ rest ++ path) → held new other ≡ held old other

-- the new layer has nothing at the path and below it, and at every other path what the old one has
abbrev pub ClearsPath : Layer → Layer → Path → Type 0
ClearsPath old new path = ReplacesPath old new path None

-- the new layer has a whiteout at the path and nothing below it, and at every other path what the old one has
abbrev pub CoversPath : Layer → Layer → Path → Type 0
CoversPath old new path = ReplacesPath old new path (Some layers.Whiteout)

-- A new object stands under the key, which was vacant, and has the name in the directory; it is an empty directory or has one name.
-- Every other name is bound as it was, and every other key has what it had.
pub record Inserts (old new : Tree) (dir : ℕ) (name : List ℕ) (o : Object) (key : ℕ) : Type 0 where
  pub fresh : get old key ≡ None
  pub binds : Rebinds (entry old) (entry new) dir name (Some (bound.Object key))
  pub there : seen_at new key ≡ Some (seen_object key o)
  pub inode : inode_at new key ≡ new_inode o
  pub empty : (n : List ℕ) → entry new key n ≡ None
  pub seen : (k : ℕ) → k ≢ key → seen_at new k ≡ seen_at old k
  pub inodes : (k : ℕ) → k ≢ key → inode_at new k ≡ inode_at old k

-- The name is bound to nothing, or to a whiteout, in place of what it was bound to. An inode that it led to has one name less.
-- Every other name is bound as it was, and every other key has what it had.
pub record Unbinds (old new : Tree) (dir : ℕ) (name : List ℕ) (to : Option Entry) : Type 0 where
  pub binds : Rebinds (entry old) (entry new) dir name to
  pub seen : (k : ℕ) → seen_at new k ≡ seen_at old k
  pub unlinked : (k : ℕ) → child old dir name ≡ Some k → inode_at new k ≡ option_map with_less (inode_at old k)
  pub inodes : (k : ℕ) → child old dir name ≢ Some k → inode_at new k ≡ inode_at old k

-- The file under the key has these bytes of its own. Every name is bound as it was, and every other inode has what it had.
pub record Writes (old new : Tree) (key : ℕ) (bytes : List ℕ) : Type 0 where
  pub there : inode_at new key ≡ option_map (with_bytes bytes) (inode_at old key)
  pub inodes : (k : ℕ) → k ≢ key → inode_at new k ≡ inode_at old k
  pub entries : (dir : ℕ) (name : List ℕ) → entry new dir name ≡ entry old dir name
  pub seen : (k : ℕ) → seen_at new k ≡ seen_at old k

-- Nothing stands under the key any more, and every other key has what it had.
pub record Frees (old new : Tree) (key : ℕ) : Type 0 where
  pub gone : get new key ≡ None
  pub no_inode : inode_at new key ≡ None
  pub nodes : (k : ℕ) → k ≢ key → get new k ≡ get old k
  pub entries : (k : ℕ) (name : List ℕ) → k ≢ key → entry new k name ≡ entry old k name
  pub seen : (k : ℕ) → k ≢ key → seen_at new k ≡ seen_at old k
  pub inodes : (k : ℕ) → k ≢ key → inode_at new k ≡ inode_at old k
  pub names : (k : ℕ) → k ≢ key → names_room new k ≡ names_room old k

-- what stands at the name has at most whiteouts in it
abbrev pub HoldsNoObjects : Tree → ℕ → List ℕ → Type 0
HoldsNoObjects t dir name = (key : ℕ) → child t dir name ≡ Some key → (n : List ℕ) → child t key n ≡ None

-- at every path the same is held
abbrev pub SameObjects : Layer → Layer → Type 0
SameObjects old new = (path : Path) → held new path ≡ held old path

-- at most so many places for objects are used
abbrev pub UsesObjects : Tree → Tree → ℕ → Type 0
UsesObjects old new used = slab_len new + old.capacity ≤ new.capacity + slab_len old + used

-- each name leads where it led, the same is seen under each key, and no room is lost
pub record SameTree (old new : Tree) : Type 0 where
  pub entries : (dir : ℕ) (name : List ℕ) → entry new dir name ≡ entry old dir name
  pub seen : (key : ℕ) → seen_at new key ≡ seen_at old key
  pub inodes : (key : ℕ) → inode_at new key ≡ inode_at old key
  pub names : (dir : ℕ) → names_room old dir ≤ names_room new dir
  pub objects : UsesObjects old new 0
