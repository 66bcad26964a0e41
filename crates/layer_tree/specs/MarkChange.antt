-- What other marks of a directory make of a layer (overlayfs.rst, "whiteouts and opaque directories" and "redirect_dir").
use Rattle.std.specs.Prelude.{◌≡◌, ◌≢◌, ℕ, Bool, List, Option, Some, option_map}
use Rattle.slab.specs.Slab.{get}
use Rattle.ov_base.specs.declared.attributes.Attributes.{Attributes}
use Rattle.ov_base.specs.declared.redirect.Redirect.{Redirect}
use Rattle.plain_model.specs.Layers as layers
use Rattle.plain_model.specs.Layers.{Layer, Path, held}
use Rattle.layer_tree.specs.Tree.{Tree, entry, key_at}
use Rattle.layer_tree.specs.declared.node.Marks.{Marks}
use Rattle.layer_tree.specs.declared.node.Node.{Node}
use Rattle.layer_tree.specs.declared.node.Node.TheVariants as node

-- the directory with these marks, its names and attributes as they were; an inode has none
abbrev pub with_marks : Marks → Node → Node
with_marks m (node.Directory d) = node.Directory (record d { marks = m })
with_marks m (node.Inode i) = node.Inode i

-- the directory under the key has these marks, every other key has what it had, and names and paths lead where they led
pub record SetsMarks (old new : Tree) (key : ℕ) (m : Marks) : Type 0 where
  pub there : get new key ≡ option_map (with_marks m) (get old key)
  pub others : (k : ℕ) → k ≢ key → get new k ≡ get old k
  pub entries : (dir : ℕ) (name : List ℕ) → entry new dir name ≡ entry old dir name
  pub paths : (path : Path) → key_at new path ≡ key_at old path

-- the directory at the path has these marks, and the number and attributes that it had; every other path holds what it held, and the
-- inodes are as before
pub record MarksDirectory (old new : Layer) (path : Path) (key : ℕ) (opaque : Bool) (redirect : Option Redirect) : Type 0 where
  pub attributes : Attributes
  pub was_opaque : Bool
  pub had_redirect : Option Redirect
  pub before : held old path ≡ Some (layers.Directory key attributes was_opaque had_redirect)
  pub now : held new path ≡ Some (layers.Directory key attributes opaque redirect)
  pub elsewhere : (other : Path) → other ≢ path → held new other ≡ held old other
  pub inodes : (k : ℕ) → new.inodes k ≡ old.inodes k
