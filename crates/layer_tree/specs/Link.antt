-- What a further name of a file or symbolic link makes of a layer (link(2)).
use Rattle.std.specs.Prelude.{◌≡◌, ◌≢◌, ℕ, ◌+◌, ◌^◌, ◌<◌, List, Option, Some, None, option_map}
use Rattle.plain_model.specs.Layers as layers
use Rattle.layer_tree.specs.Walk.{Rebinds}
use Rattle.layer_tree.specs.Tree.{Tree, entry, seen_at, inode_at}
use Rattle.layer_tree.specs.declared.name_table.Entry.TheVariants as bound
use Rattle.layer_tree.specs.declared.node.Node.{Node}
use Rattle.layer_tree.specs.declared.node.Node.TheVariants as node

-- an inode whose count of names has room for one more
abbrev pub HasCountRoom : Option Node → Type 0
HasCountRoom None = ⊥
HasCountRoom (Some (node.Directory d)) = ⊥
HasCountRoom (Some (node.Inode i)) = i.links + 1 < 2 ^ 64

-- the inode with one name more
abbrev pub with_more : layers.Inode → layers.Inode
with_more i = record i { links = i.links + 1 }

-- The name is bound to the inode under the key, which has one name more. Every other name is bound as it was, and every other key has
-- what it had.
pub record Links (old new : Tree) (dir : ℕ) (name : List ℕ) (key : ℕ) : Type 0 where
  pub binds : Rebinds (entry old) (entry new) dir name (Some (bound.Object key))
  pub linked : inode_at new key ≡ option_map with_more (inode_at old key)
  pub inodes : (k : ℕ) → k ≢ key → inode_at new k ≡ inode_at old k
  pub seen : (k : ℕ) → seen_at new k ≡ seen_at old k
