-- Objects of a layer to which no name leads, and what a change leaves of the objects under their keys (POSIX.1-2017, unlink(): the
-- contents of a file are removed when its link count is 0 and no process has it open).
use Rattle.std.specs.Prelude.{◌≡◌, ◌≢◌, ℕ, List, Option, Some, None, IsSome}
use Rattle.slab.specs.Slab.{get}
use Rattle.layer_tree.specs.Tree.{Tree, ROOT, child, seen_at, inode_at}

-- an object that lost its last name: it isn't the root, no name leads to it, and at most whiteouts stand in it
pub record IsNameless (t : Tree) (key : ℕ) : Type 0 where
  pub present : IsSome (get t key)
  pub not_root : key ≢ ROOT
  pub unnamed : (dir : ℕ) (name : List ℕ) → child t dir name ≢ Some key
  pub bare : (name : List ℕ) → child t key name ≡ None

-- What stood under a key stands there, a directory with its attributes and marks; every inode is as before, but for the one that
-- changed; and what had no name has none.
pub record KeepsObjects (old new : Tree) (changed : Option ℕ) : Type 0 where
  pub seen : (k : ℕ) → IsSome (get old k) → seen_at new k ≡ seen_at old k
  pub inodes : (k : ℕ) → changed ≢ Some k → inode_at new k ≡ inode_at old k
  pub nameless : (k : ℕ) → IsNameless old k → IsNameless new k
