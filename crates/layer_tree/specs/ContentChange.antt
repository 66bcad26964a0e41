-- What other bytes of a file make of a layer (write(2), ftruncate(2)).
use Rattle.std.specs.Prelude.{◌≡◌, ◌≢◌, ℕ, List, None, Some}
use Rattle.ov_base.specs.declared.bytes.Content.TheVariants as content
use Rattle.plain_model.specs.Layers as layers
use Rattle.plain_model.specs.Layers.{Layer, Path, held}

-- the inode is a file with these bytes of its own, and bears no mark; every path holds what it held, and every other inode is as before
pub record SetsBytes (old new : Layer) (key : ℕ) (bytes : List ℕ) : Type 0 where
  pub inode : layers.Inode
  pub before : old.inodes key ≡ Some inode
  pub now : new.inodes key ≡ Some (record inode { content = content.File bytes; mark = None })
  pub inodes : (k : ℕ) → k ≢ key → new.inodes k ≡ old.inodes k
  pub objects : (path : Path) → held new path ≡ held old path
