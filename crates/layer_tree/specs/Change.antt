-- How the objects under their keys change. No public clause cites this module.
use Rattle.std.specs.Prelude.{◌≡◌, ◌≢◌, ℕ, ◌+◌, ◌-◌, ◌<◌, ◌≤◌, Bool, true, false, List, [], Option, Some, None, is_some, option_map}
use Rattle.std.specs.Option.{option_and_then, option_map_or}
use Rattle.std.specs.FinMap as map
use Rattle.slab.specs.Slab.{get}
use Rattle.layer_tree.specs.Table.{Table, NameMap, entry_in}
use Rattle.ov_base.specs.declared.bytes.Content.TheVariants as content
use Rattle.plain_model.specs.Layers as layers
use Rattle.layer_tree.specs.Tree.{Tree, table_of, inode_of, file_bytes, unmarked_bytes}
use Rattle.layer_tree.specs.declared.name_table.Entry.{Entry}
use Rattle.layer_tree.specs.declared.name_table.Entry.TheVariants as bound
use Rattle.layer_tree.specs.declared.node.Node.{Node}
use Rattle.layer_tree.specs.declared.node.Node.TheVariants as node
use Rattle.layer_tree.specs.declared.node.Directory.{Directory}
use Rattle.layer_tree.specs.declared.node.Object.{Object}
use Rattle.layer_tree.specs.declared.node.Object.TheVariants as object

-- the node of a new object
abbrev pub IsPlanted : Object → Node → Type 0
IsPlanted (object.Directory a m) n =
    (t : Table) × (t.entries ≡ map.empty) × (n ≡ node.Directory (record { names = t; attributes = a; marks = m }))
IsPlanted (object.Inode c a) n = n ≡ node.Inode (record { content = c; attributes = a; links = 1; mark = None })
IsPlanted (object.Marked q a) n = n ≡ node.Inode (record { content = content.File []; attributes = a; links = 1; mark = Some q })

-- a directory has these entries now, and lost at most `used` places
pub record Retabled (old new : Node) (change : NameMap → NameMap) (used : ℕ) : Type 0 where
  pub before : Directory
  pub was : old ≡ node.Directory before
  pub table : Table
  pub entries : table.entries ≡ change before.names.entries
  pub spare : before.names.spare ≤ table.spare + used
  pub is : new ≡ node.Directory (record before { names = table })

-- the same of the directory under a key; every other key keeps its node
pub record Retables (old new : Tree) (dir : ℕ) (change : NameMap → NameMap) (used : ℕ) : Type 0 where
  pub before : Node
  pub was : get old dir ≡ Some before
  pub after : Node
  pub is : get new dir ≡ Some after
  pub retabled : Retabled before after change used
  pub others : (key : ℕ) → key ≢ dir → get new key ≡ get old key

-- the entries without the one of this name, at which a whiteout is left if it is covered
abbrev pub left_names : Bool → List ℕ → NameMap → NameMap
left_names true name m = map.insert m name bound.Whiteout
left_names false name m = map.remove m name

-- how many more names fit into a node with no allocation
abbrev pub node_room : Node → ℕ
node_room n = option_map_or (λ table. table.spare) (table_of n) 0

-- what a node has at a name
abbrev pub node_entry : Node → List ℕ → Option Entry
node_entry n name = option_and_then (λ table. entry_in table name) (table_of n)

-- the node with one name less
abbrev pub unlinked : Node → Node
unlinked (node.Directory d) = node.Directory d
unlinked (node.Inode i) = node.Inode (record i { links = i.links - 1 })

-- an object whose count of names isn't 0
abbrev pub IsCounted : Option Node → Type 0
IsCounted None = ⊥
IsCounted (Some (node.Directory d)) = Unit {0}
IsCounted (Some (node.Inode i)) = 0 < i.links

-- the object under the key has one name less, and every other key keeps its node
pub record Unlinks (old new : Tree) (key : Option ℕ) : Type 0 where
  pub named : (k : ℕ) → key ≡ Some k → get new k ≡ option_map unlinked (get old k)
  pub others : (k : ℕ) → key ≢ Some k → get new k ≡ get old k

-- the node with one name more
abbrev pub linked : Node → Node
linked (node.Directory d) = node.Directory d
linked (node.Inode i) = node.Inode (record i { links = i.links + 1 })

-- the object under the key has one name more, and every other key keeps its node
pub record GainsName (old new : Tree) (key : ℕ) : Type 0 where
  pub named : get new key ≡ option_map linked (get old key)
  pub others : (k : ℕ) → k ≢ key → get new k ≡ get old k

-- the bytes of a node that is a file
abbrev pub node_bytes : Node → Option (List ℕ)
node_bytes n = option_and_then (λ (i : layers.Inode). file_bytes i.content) (inode_of n)

-- the bytes of a node that is a file with bytes of its own
abbrev pub node_own : Node → Option (List ℕ)
node_own n = option_and_then (λ (i : layers.Inode). unmarked_bytes i.mark i.content) (inode_of n)

-- the node with these bytes of its own
abbrev pub with_file : List ℕ → Node → Node
with_file bytes (node.Directory d) = node.Directory d
with_file bytes (node.Inode i) = node.Inode (record i { content = content.File bytes; mark = None })

-- whether a node is a file that bears a mark
abbrev pub is_marked_node : Node → Bool
is_marked_node n = is_some (option_and_then (λ (i : layers.Inode). i.mark) (inode_of n))
