-- What a call that is not refused makes of the state, column by column: the tree, the handles and the watches
-- (the POSIX.1-2017 pages of the calls; overlayfs.rst, "Non-standard behavior" for files that are still in a lower layer; inotify_add_watch(2)).
use Rattle.std.specs.Prelude.{ℕ, suc, ◌+◌, ◌-◌, ℤ, pos, ◌+ℤ◌, nat_abs, Bool, true, false, not, cond, min, ◌&&◌, ◌||◌, List, [], ◌∷◌, ◌++◌, Option, None, Some, nat_eq, nat_lt, is_none, is_some, length, map, take, drop, replicate, unwrap_or, slice_set, bit_and}
use Rattle.std.specs.Int.Bits.{bit_or}
use Rattle.std.specs.List.{list_any}
use Rattle.std.specs.FinMap as fin
use Rattle.ov_base.specs.declared.attributes.Attributes.{Attributes}
use Rattle.ov_base.specs.declared.bytes.Content.{Content}
use Rattle.ov_base.specs.declared.bytes.Content.TheVariants.{File, SymbolicLink}
use Rattle.ov_base.specs.Calls.{Call}
use Rattle.ov_base.specs.declared.call.CallOf.TheVariants.{Chmod, Chown, SetAttribute, DeleteAttribute, Mkdir, Symlink, Open, Unlink, Rmdir, Hardlink, Rename, Read, Write, Seek, Truncate, ListNames, Close, Arm, TakeNotices}
use Rattle.ov_base.specs.declared.call.OpenFlags.{OpenFlags}
use Rattle.ov_base.specs.declared.node_id.NodeId.{NodeId}
use Rattle.ov_base.specs.declared.node_id.NodeId.TheVariants.{New}
pub use Rattle.ov_base.specs.UserValues.{set_value, drop_value}
use Rattle.plain_model.specs.Layers.{Name, Path, is_file, same_name}
use Rattle.plain_model.specs.Tree.{same_id, Node, Branch, Leaf, Origin, Own, Untouched, Tree, node_at, node_of, put, lead, is_folder}
use Rattle.plain_model.specs.Watching.{EVENTS, MASK_ADD, ONESHOT, has_bit, Watch, Instance}
use Rattle.plain_model.specs.Machine.{View, Live, Kept, Frozen, Handle, DESCRIPTORS_MAX, Table, MountOptions, State, look, same_found, bytes_of_node, handle_of, handle_node, lowest_free, bytes_of, place_of, write_place, seek_base, watch_on}

-- the name n in the directory d
abbrev pub on_way : Option NodeId → Name → Option (NodeId × Name)
on_way None n = None
on_way (Some d) n = Some (d, n)

-- the way in to a path: its directory and last name; the root has none
abbrev pub way_of : Tree → Path → Option (NodeId × Name)
way_of t [] = None
way_of t (n ∷ p) = on_way (node_at t p) n

-- the tree with a way in leading to e
abbrev pub lead_way : Tree → Option (NodeId × Name) → Option NodeId → Tree
lead_way t None e = t
lead_way t (Some w) e = lead t w.0 w.1 e

abbrev pub over_node : (Node → Node) → Option Node → Option Node
over_node f None = None
over_node f (Some x) = Some (f x)

-- the tree with one node changed
abbrev pub change : (Node → Node) → Tree → Option NodeId → Tree
change f t None = t
change f t (Some d) = put t d (over_node f (t d))

-- whether the bytes are a lower file's after a change of attributes or names: a file that was untouched is copied up without them where
-- the mount was told so
abbrev pub low_after : Bool → Content → Origin → Bool
low_after metacopy content (Own low) = low
low_after metacopy content (Untouched links) = metacopy && is_file content

-- the origin after a change of attributes or names
abbrev pub after_meta : MountOptions → Content → Origin → Origin
after_meta m content u = Own (low_after m.metacopy content u)

-- a node after write access to it, which copies a lower file's bytes up
abbrev pub touched : Node → Node
touched (Leaf content a u l) = Leaf content a (Own false) l
touched x = x

-- a node after a rename of it
abbrev pub meta_touched : MountOptions → Node → Node
meta_touched m (Leaf content a u l) = Leaf content a (after_meta m content u) l
meta_touched m x = x

-- a node with a name less, and with a name more
abbrev pub one_fewer : Node → Node
one_fewer (Leaf content a u l) = Leaf content a u (l - 1)
one_fewer (Branch a b names c) = Branch a b names (c - 1)

abbrev pub one_more : MountOptions → Node → Node
one_more m (Leaf content a u l) = Leaf content a (after_meta m content u) (l + 1)
one_more m x = x

-- a file with other bytes
abbrev pub with_bytes : List ℕ → Node → Node
with_bytes bytes (Leaf (File old) a u l) = Leaf (File bytes) a u l
with_bytes bytes x = x

-- a node with other attributes
abbrev pub with_attributes : MountOptions → (Attributes → Attributes) → Node → Node
with_attributes m f (Leaf content a u l) = Leaf content (f a) (after_meta m content u) l
with_attributes m f (Branch a b names c) = Branch (f a) b names c

abbrev pub with_mode : ℕ → Attributes → Attributes
with_mode mode a = record a { mode = mode }

abbrev pub with_owner : ℕ → ℕ → Attributes → Attributes
with_owner uid gid a = record a { uid = uid; gid = gid }

-- the attributes of a new object
abbrev pub fresh : ℕ → Attributes
fresh mode = record { mode = mode; uid = 0; gid = 0; user = [] }

-- whether an open handle is on a node
abbrev pub holds : NodeId → Option Handle → Bool
holds d None = false
holds d (Some h) = same_id d h.node

abbrev pub is_held : List Table → NodeId → Bool
is_held ks d = list_any (λ k. list_any (holds d) k.handles) ks

-- whether a node has a name
abbrev pub is_named : Option Node → Bool
is_named None = false
is_named (Some (Leaf content a u l)) = nat_lt 0 l
is_named (Some (Branch a b names c)) = nat_lt 0 c

-- the tree without a node that has neither name nor handle
abbrev pub settled : List Table → Tree → Option NodeId → Tree
settled ks t None = t
settled ks t (Some d) = put t d (cond (is_named (t d) || is_held ks d) (t d) None)

-- the tree with a node under the next serial i, and its first name
abbrev pub made_way : Tree → ℕ → Option (NodeId × Name) → Node → Tree
made_way t i None x = t
made_way t i (Some w) x = lead (put t (New i) (Some x)) w.0 w.1 (Some (New i))

-- the tree after the name of a path went
abbrev pub dropped : List Table → Tree → Path → Tree
dropped ks t p = settled ks (lead_way (change one_fewer t (node_at t p)) (way_of t p) None) (node_at t p)

-- the tree after a node took the new name, which what stood there loses, and left the old one
abbrev pub renamed : MountOptions → Tree → Path → Path → Tree
renamed m t old new = lead_way (lead_way (change (meta_touched m) (change one_fewer t (node_at t new)) (node_at t old)) (way_of t new) (node_at t old)) (way_of t old) None

-- bytes cut or filled with zeros to a length
abbrev pub sized : List ℕ → ℕ → List ℕ
sized bytes n = take n bytes ++ replicate (n - length bytes) 0

-- bytes after a write at a place
abbrev pub written : List ℕ → ℕ → List ℕ → List ℕ
written bytes at new = sized bytes at ++ new ++ drop (at + length new) bytes

-- what of a write fits
abbrev pub fitting : ℕ → ℕ → List ℕ → List ℕ
fitting limit at bytes = take (limit - at) bytes

-- a file after a write at a place
abbrev pub wrote : ℕ → ℕ → List ℕ → Node → Node
wrote limit at new x = with_bytes (written (bytes_of_node (Some x)) at (fitting limit at new)) x

-- the identity of a handle's node
abbrev pub node_of_handle : Option Handle → Option NodeId
node_of_handle None = None
node_of_handle (Some h) = Some h.node

-- a node after open: write access touches it, and TRUNC empties it
abbrev pub opened : OpenFlags → Node → Node
opened f x = cond f.writes (cond f.truncate (with_bytes [] (touched x)) (touched x)) x

-- a client's descriptor leads to a handle, or is free
abbrev pub with_handle : List Table → ℕ → ℕ → Option Handle → List Table
with_handle ks c fd h = map {A = Table} (λ k. cond (nat_eq k.client c) (record k { handles = slice_set k.handles fd h }) k) ks

-- the tree after a call
abbrev pub tree_after : State → ℕ → Call → Tree
tree_after s c (Chmod p mode) = change (with_attributes s.options (with_mode mode)) s.tree (node_at s.tree p)
tree_after s c (Chown p uid gid) = change (with_attributes s.options (with_owner uid gid)) s.tree (node_at s.tree p)
tree_after s c (SetAttribute p n v) = change (with_attributes s.options (λ a. record a { user = set_value a.user n v })) s.tree (node_at s.tree p)
tree_after s c (DeleteAttribute p n) = change (with_attributes s.options (λ a. record a { user = drop_value a.user n })) s.tree (node_at s.tree p)
tree_after s c (Mkdir p mode) = made_way s.tree s.serial (way_of s.tree p) (Branch (fresh mode) false fin.empty 1)
tree_after s c (Symlink target p) = made_way s.tree s.serial (way_of s.tree p) (Leaf (SymbolicLink target) (fresh 0o777) (Own false) 1)
tree_after s c (Open p f mode) =
    cond (is_none (node_at s.tree p))
    (made_way s.tree s.serial (way_of s.tree p) (Leaf (File []) (fresh mode) (Own false) 1))
    (change (opened f) s.tree (node_at s.tree p))
tree_after s c (Unlink p) = dropped s.tables s.tree p
tree_after s c (Rmdir p) = dropped s.tables s.tree p
tree_after s c (Hardlink old new) = lead_way (change (one_more s.options) s.tree (node_at s.tree old)) (way_of s.tree new) (node_at s.tree old)
tree_after s c (Rename old new) = cond (same_found (look s.tree old) (look s.tree new)) s.tree (settled s.tables (renamed s.options s.tree old new) (node_at s.tree new))
tree_after s c (Write fd bytes) = cond (nat_eq (length bytes) 0) s.tree (change (wrote s.options.file_limit (write_place s.tree (handle_of s.tables c fd)) bytes) s.tree (node_of_handle (handle_of s.tables c fd)))
tree_after s c (Truncate fd size) = change (λ x. with_bytes (sized (bytes_of_node (Some x)) size) x) s.tree (node_of_handle (handle_of s.tables c fd))
tree_after s c (Close fd) = settled (with_handle s.tables c fd None) s.tree (node_of_handle (handle_of s.tables c fd))
tree_after s c _ = s.tree

-- what a new handle for reading alone sees of a file
abbrev pub view_by : Origin → List ℕ → Attributes → View
view_by (Own false) bytes a = Live
view_by (Own true) bytes a = Kept bytes
view_by (Untouched links) bytes a = Frozen bytes a links

abbrev pub view_of : OpenFlags → Option Node → View
view_of f (Some (Leaf (File bytes) a u l)) = cond f.writes Live (view_by u bytes a)
view_of f _ = Live

abbrev pub new_handle : OpenFlags → NodeId → Option (NodeId × Name) → Option Node → Handle
new_handle f d way o = record { node = d; reads = f.reads; writes = f.writes; append = f.append; place = 0; way = way; view = view_of f o; listed = None }

-- the node that an open finds, or makes under the next serial
abbrev pub opens : Option NodeId → ℕ → NodeId
opens None i = New i
opens (Some d) i = d

abbrev pub same_way : Option (NodeId × Name) → Option (NodeId × Name) → Bool
same_way (Some a) (Some b) = same_id a.0 b.0 && same_name a.1 b.1
same_way _ _ = false

-- a handle on d whose way in is the old name gets the new one
abbrev pub re_way : Option NodeId → Option (NodeId × Name) → Option (NodeId × Name) → Option Handle → Option Handle
re_way None old new h = h
re_way (Some d) old new None = None
re_way (Some d) old new (Some h) = Some (cond (same_id d h.node && same_way h.way old) (record h { way = new }) h)

abbrev pub re_ways : List Table → Option NodeId → Option (NodeId × Name) → Option (NodeId × Name) → List Table
re_ways ks d old new = map {A = Table} (λ k. record k { handles = map (re_way d old new) k.handles }) ks

-- the names of a directory by their bytes
abbrev pub names_in : Option Node → List Name
names_in (Some (Branch a b names c)) = fin.keys names
names_in _ = []

-- the listing of a handle: the one that it keeps, else the names of now
abbrev pub listing : Tree → Handle → List Name
listing t h = unwrap_or h.listed (names_in (t h.node))

-- the bytes that a read gives
abbrev pub read_bytes : Tree → Option Handle → ℕ → List ℕ
read_bytes t h n = take n (drop (place_of h) (bytes_of t h))

-- the place that a seek leads to
abbrev pub sought : State → ℕ → ℕ → ℤ → ℕ → ℕ
sought s c fd offset whence = nat_abs (pos (seek_base s.tree (handle_of s.tables c fd) whence) +ℤ offset)

abbrev pub moved_to : ℕ → Option Handle → Option Handle
moved_to at None = None
moved_to at (Some h) = Some (record h { place = at })

-- a directory's handle forgets its listing
abbrev pub rewound : Bool → Option Handle → Option Handle
rewound b None = None
rewound b (Some h) = Some (cond b (record h { listed = None }) h)

-- a handle after n names of its listing
abbrev pub listed_on : Tree → ℕ → Option Handle → Option Handle
listed_on t n None = None
listed_on t n (Some h) = Some (record h { listed = Some (listing t h); place = min (length (listing t h)) (h.place + n) })

-- the descriptors after a call
abbrev pub tables_after : State → ℕ → Call → List Table
tables_after s c (Open p f mode) = with_handle s.tables c (unwrap_or (lowest_free s.tables c) DESCRIPTORS_MAX) (Some (new_handle f (opens (node_at s.tree p) s.serial) (way_of s.tree p) (node_of s.tree (node_at s.tree p))))
tables_after s c (Read fd n) = with_handle s.tables c fd (moved_to (place_of (handle_of s.tables c fd) + length (read_bytes s.tree (handle_of s.tables c fd) n)) (handle_of s.tables c fd))
tables_after s c (Write fd bytes) =
    cond (nat_eq (length bytes) 0) s.tables
    (with_handle s.tables c fd (moved_to (write_place s.tree (handle_of s.tables c fd) + length (fitting s.options.file_limit (write_place s.tree (handle_of s.tables c fd)) bytes)) (handle_of s.tables c fd)))
tables_after s c (Seek fd offset whence) = with_handle s.tables c fd (rewound (is_folder (handle_node s.tree (handle_of s.tables c fd))) (moved_to (sought s c fd offset whence) (handle_of s.tables c fd)))
tables_after s c (ListNames fd n) = with_handle s.tables c fd (listed_on s.tree n (handle_of s.tables c fd))
tables_after s c (Close fd) = with_handle s.tables c fd None
tables_after s c (Rename old new) = cond (same_found (look s.tree old) (look s.tree new)) s.tables (re_ways s.tables (node_at s.tree old) (way_of s.tree old) (way_of s.tree new))
tables_after s c _ = s.tables

-- the watch after it is armed again: its mask is replaced, or added to
abbrev pub re_mask : ℕ → Watch → Watch
re_mask mask w =
    cond (has_bit mask MASK_ADD)
    (record w { mask = bit_or w.mask (bit_and mask EVENTS); once = w.once || has_bit mask ONESHOT })
    (record w { mask = bit_and mask EVENTS; once = has_bit mask ONESHOT })

-- an instance with a watch on a node: the one that it has, or the next
abbrev pub armed_on : ℕ → Option NodeId → ℕ → Instance → Instance
armed_on slot None mask e = e
armed_on slot (Some d) mask e =
    cond (is_some (watch_on e.watches (Some d)))
    (record e { watches = map (λ w. cond (same_id d w.node) (re_mask mask w) w) e.watches })
    (record e { armed = e.armed + 1; watches = e.watches ++ record { number = e.armed + 1; slot = slot; node = d; mask = bit_and mask EVENTS; once = has_bit mask ONESHOT } ∷ [] })

abbrev pub at_client : ℕ → (Instance → Instance) → List Instance → List Instance
at_client c f es = map {A = Instance} (λ e. cond (nat_eq e.client c) (f e) e) es

-- the instances after a call, before its events are heard
abbrev pub instances_after : State → ℕ → Call → List Instance
instances_after s c (Arm slot p mask) = at_client c (armed_on slot (node_at s.tree p) mask) s.instances
instances_after s c (TakeNotices n) = at_client c (λ e. record e { queue = drop n e.queue }) s.instances
instances_after s c _ = s.instances

-- whether a call makes a node, and whether it moves one
abbrev pub makes : State → Call → Bool
makes s (Mkdir p mode) = true
makes s (Symlink target p) = true
makes s (Open p f mode) = is_none (node_at s.tree p)
makes s _ = false

abbrev pub moves : State → Call → Bool
moves s (Rename old new) = not (same_found (look s.tree old) (look s.tree new))
moves s _ = false

abbrev pub next_if : Bool → ℕ → ℕ
next_if b n = cond b (suc n) n

-- the state after a call, before its events are heard
abbrev pub after : State → ℕ → Call → State
after s c call = record {
  tree = tree_after s c call;
  serial = next_if (makes s call) s.serial;
  renames = next_if (moves s call) s.renames;
  arrived = s.arrived;
  options = s.options;
  tables = tables_after s c call;
  instances = instances_after s c call;
}
