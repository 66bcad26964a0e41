-- The plain tree that a mount shows: nodes with identities, names that lead from directories to nodes, and when layers show a tree
-- (overlayfs.rst, "Non-directories" and "Non-standard behavior"; POSIX.1-2017, Base Definitions, Directory, Hard Link and Link Count).
use Rattle.std.specs.Prelude.{◌≡◌, ◌↔◌, ℕ, zero, suc, ◌+◌, ◌≤◌, Bool, true, false, cond, ◌&&◌, List, [], ◌∷◌, Option, None, Some, nat_eq, is_some, length, ◌⊎◌}
use Rattle.std.specs.List.{list_any, IsDistinct}
use Rattle.std.specs.Cmp.Lexicographic.{slice_cmp}
use Rattle.std.specs.Ordering.{nat_cmp}
use Rattle.std.specs.FinMap as map
use Rattle.ov_base.specs.declared.attributes.Attributes.{Attributes}
use Rattle.ov_base.specs.declared.bytes.Content.{Content}
use Rattle.ov_base.specs.declared.node_id.NodeId.{NodeId}
use Rattle.ov_base.specs.declared.node_id.NodeId.TheVariants.{At, New}
use Rattle.plain_model.specs.Layers.{Name, Path, Inode, Layer, Shown, Folder, Contents, held, Named, Whiteout, shows, under, base, same_name, same_path}

-- whether two identities are the same
abbrev pub same_id : NodeId → NodeId → Bool
same_id (At p) (At q) = same_path p q
same_id (New i) (New j) = nat_eq i j
same_id (At p) (New j) = false
same_id (New i) (At q) = false

-- the names of a directory, and where each leads
abbrev pub Names : Type 0
Names = map.FinMap (slice_cmp nat_cmp) NodeId

-- where a file or link stands: in the upper layer, with bytes of its own or, where that is true, those of a file of the lower layers; or
-- untouched in a lower layer, whose link count it shows
pub data Origin : Type 0 where
  Own : Bool → Origin
  Untouched : ℕ → Origin

-- A directory: attributes, whether it is base, names. A file or link: content, attributes, origin. Last, how many names lead to it.
pub data Node : Type 0 where
  Branch : Attributes → Bool → Names → ℕ → Node
  Leaf : Content → Attributes → Origin → ℕ → Node

-- the nodes of a state, by their identities
abbrev pub Tree : Type 0
Tree = NodeId → Option Node

-- the identity of the root
abbrev pub root : NodeId
root = At []

-- where a name in a node leads
abbrev pub names_of : Option Node → Name → Option NodeId
names_of (Some (Branch a b names c)) n = map.get names n
names_of _ n = None

-- where a name leads from a node of the tree
abbrev pub entry : Tree → Option NodeId → Name → Option NodeId
entry t None n = None
entry t (Some d) n = names_of (t d) n

-- the identity at a path
abbrev pub node_at : Tree → Path → Option NodeId
node_at t [] = Some root
node_at t (n ∷ p) = entry t (node_at t p) n

-- the node of an identity
abbrev pub node_of : Tree → Option NodeId → Option Node
node_of t None = None
node_of t (Some d) = t d

-- the names, with n leading to e
abbrev pub set_name : Names → Name → Option NodeId → Names
set_name names n None = map.remove names n
set_name names n (Some e) = map.insert names n e

-- a directory with n leading to e; other nodes stay
abbrev pub with_name : Name → Option NodeId → Option Node → Option Node
with_name n e (Some (Branch a b names c)) = Some (Branch a b (set_name names n e) c)
with_name n e o = o

-- the tree with another node at an identity
abbrev pub put : Tree → NodeId → Option Node → Tree
put t d o = λ x. cond (same_id d x) o (t x)

-- the tree with n in the directory d leading to e
abbrev pub lead : Tree → NodeId → Name → Option NodeId → Tree
lead t d n e = put t d (with_name n e (t d))

-- the link count that a node shows: a lower layer's, or the number of its names
abbrev pub shown_links : Origin → ℕ → ℕ
shown_links (Own low) names = names
shown_links (Untouched links) names = links

-- what a node shows of itself, but for its names; last, a file's or link's link count
pub data Sight : Type 0 where
  SeenBranch : Attributes → Bool → Sight
  SeenLeaf : Content → Attributes → Origin → ℕ → Sight

abbrev pub face : Option Node → Option Sight
face None = None
face (Some (Branch a b names c)) = Some (SeenBranch a b)
face (Some (Leaf content a u c)) = Some (SeenLeaf content a u (shown_links u c))

-- what the tree shows at a path
abbrev pub sight_at : Tree → Path → Option Sight
sight_at t p = face (node_of t (node_at t p))

-- the origin of an inode of a layer: the upper is layer 0, here and in what comes through it alone
abbrev pub origin_in : ℕ → Inode → Origin
origin_in zero i = Own (is_some i.mark)
origin_in (suc j) i = Untouched i.links

-- an inode of a layer, as a tree shows it
abbrev pub see_inode : ℕ → Option Inode → Option Sight
see_inode j None = None
see_inode j (Some i) = Some (SeenLeaf i.content i.attributes (origin_in j i) i.links)

-- an object of the layers, as a tree shows it; b says whether a directory is base
abbrev pub see : Bool → Option Shown → Option Sight
see b None = None
see b (Some (Folder j k a)) = Some (SeenBranch a b)
see b (Some (Contents j k i)) = see_inode j i

-- what layers show at a path, as a tree does
abbrev pub merged : Layer → List Layer → Path → Option Sight
merged U lowers p = see (base U lowers p) (shows 0 (U ∷ lowers) p)

-- two paths that are one object: names of one inode of the upper
pub record AreLinked (U : Layer) (p q : Path) : Type 0 where
  pub number : ℕ
  pub first : held U p ≡ Some (Named number)
  pub second : held U q ≡ Some (Named number)

-- the layers show the tree, up to the identities of nodes: the same at each path, one node exactly where two paths name one upper inode
pub record Remounts (U : Layer) (lowers : List Layer) (t : Tree) : Type 0 where
  pub sights : (p : Path) → sight_at t p ≡ merged U lowers p
  pub linked : (p q : Path) → AreLinked U p q → node_at t p ≡ node_at t q
  pub apart : (p q : Path) (d : NodeId) → node_at t p ≡ Some d → node_at t q ≡ Some d → (p ≡ q) ⊎ AreLinked U p q

-- the upper has no whiteout where the layers below show nothing
abbrev pub IsThin : Layer → List Layer → Type 0
IsThin U lowers = (n : Name) (p : Path) → held U (n ∷ p) ≡ Some Whiteout → is_some (under U lowers n p) ≡ true

-- whether a node is a directory
abbrev pub is_folder : Option Node → Bool
is_folder (Some (Branch a b names c)) = true
is_folder _ = false

-- how many names a node says that it has
abbrev pub count_of : Option Node → ℕ
count_of None = zero
count_of (Some (Branch a b names c)) = c
count_of (Some (Leaf content a u c)) = c

-- whether a node is a file or link that stands untouched in a lower layer
abbrev pub is_untouched : Option Node → Bool
is_untouched (Some (Leaf content a (Untouched links) c)) = true
is_untouched _ = false

-- whether the bytes of a node are those of a file of a lower layer
abbrev pub is_data_low : Option Node → Bool
is_data_low (Some (Leaf content a (Own low) c)) = low
is_data_low (Some (Leaf content a (Untouched links) c)) = true
is_data_low _ = false

-- whether two entries of directories are the same
abbrev pub same_entry : NodeId × Name → NodeId × Name → Bool
same_entry a b = same_id a.0 b.0 && same_name a.1 b.1

-- the names of an object: a list of exactly the entries that lead to it, each once; the root has one name more, `/`
pub record AreNames (t : Tree) (d : NodeId) (count : ℕ) : Type 0 where
  pub entries : List (NodeId × Name)
  pub once : IsDistinct same_entry entries
  pub exact : (w : NodeId × Name) → (list_any (same_entry w) entries ≡ true) ↔ (names_of (t w.0) w.1 ≡ Some d)
  pub counted : count ≡ cond (same_id root d) 1 0 + length entries

-- What a tree keeps through every call: the root is a directory, no serial from i on is used, each node has as many names as it says,
-- one without a name has none in it, and an untouched file or link has at most one.
pub record IsKept (t : Tree) (i : ℕ) : Type 0 where
  pub home : is_folder (t root) ≡ true
  pub unused : (j : ℕ) → i ≤ j → t (New j) ≡ None
  pub counted : (d : NodeId) → AreNames t d (count_of (t d))
  pub bare : (d : NodeId) (n : Name) → count_of (t d) ≡ zero → names_of (t d) n ≡ None
  pub single : (d : NodeId) → is_untouched (t d) ≡ true → count_of (t d) ≤ 1
