-- Files of the tree stay files through what changes the layers: those that a handle is open on through every call.
use Rattle.std.proofs.Common.{◌≡◌, ℕ, Bool, true, false, cond, List, Option, Some, arith}
use Rattle.mount_calls.proofs.Words.{Attributes, Branch, change, fresh, Leaf, made_way, MountOptions, Name, Node, node_at, NodeId, OpenFlags, Own, Path, put, Table, Tree, way_of}
use Rattle.std.specs.FinMap as fin
use Rattle.ov_base.specs.declared.bytes.Content.TheVariants.{SymbolicLink}
use Rattle.ov_base.specs.declared.call.CallOf.TheVariants as call
use Rattle.plain_model.specs.Tree.{IsKept, with_name}
use Rattle.plain_model.specs.Machine.{look, same_found}
use Rattle.plain_model.specs.Changes.{lead_way, meta_touched, one_fewer, one_more, with_attributes, with_mode, with_owner, set_value, drop_value, opened, is_held, settled, dropped, renamed}
use Rattle.plain_model.proofs.Paths.{ids_tell}
use Rattle.mount_calls.specs.Files.{is_leaf}
use Rattle.mount_calls.proofs.Carrying.{KeepsLeaves, KeepsHeldLeaves}

-- a file of a tree that gets another node is one still
put-leaf : (t : Tree) (x d : NodeId) (o : Option Node) → (x ≡ d → is_leaf o ≡ true) → is_leaf (t d) ≡ true → is_leaf (put t x o d) ≡ true
put-leaf t x d o same f = grind (arith, ids_tell)

-- a name more or less in a node makes no file of it, and leaves a file one
named-leaf : (n : Name) (e : Option NodeId) (o : Option Node) → is_leaf (with_name n e o) ≡ is_leaf o
named-leaf n e o = grind arith

-- nor does a way in
way-leaf : (t : Tree) (w : Option (NodeId × Name)) (e : Option NodeId) (d : NodeId) → is_leaf (t d) ≡ true → is_leaf (lead_way t w e d) ≡ true
way-leaf t w e d f = grind (arith, put-leaf, named-leaf)

-- a tree in which a node is made has the files that it had
made-leaf : (t : Tree) (i : ℕ) → IsKept t i → (w : Option (NodeId × Name)) (x : Node) (d : NodeId) → is_leaf (t d) ≡ true → is_leaf (made_way t i w x d) ≡ true
made-leaf t i kept w x d f = grind (arith, way-leaf, put-leaf)

-- and so has one of which a node changes, if that stays a file
change-leaf : (f : Node → Node) → ((x : Node) → is_leaf (Some x) ≡ true → is_leaf (Some (f x)) ≡ true) → (t : Tree) (o : Option NodeId) (d : NodeId) → is_leaf (t d) ≡ true → is_leaf (change f t o d) ≡ true
change-leaf f keeps t o d h = grind (arith, put-leaf)

-- a file with other attributes is one
altered-leaf : (m : MountOptions) (f : Attributes → Attributes) (x : Node) → is_leaf (Some x) ≡ true → is_leaf (Some (with_attributes m f x)) ≡ true
altered-leaf m f x h = grind arith

-- and so is one that is opened
opened-leaf : (f : OpenFlags) (x : Node) → is_leaf (Some x) ≡ true → is_leaf (Some (opened f x)) ≡ true
opened-leaf f x h = grind arith

-- and one with a name fewer
fewer-leaf : (x : Node) → is_leaf (Some x) ≡ true → is_leaf (Some (one_fewer x)) ≡ true
fewer-leaf x h = grind arith

-- and one with a name more
more-leaf : (m : MountOptions) (x : Node) → is_leaf (Some x) ≡ true → is_leaf (Some (one_more m x)) ≡ true
more-leaf m x h = grind arith

-- a file that a handle is open on stays where what has neither name nor handle goes
settled-leaf : (ks : List Table) (t : Tree) (o : Option NodeId) (d : NodeId) → is_held ks d ≡ true → is_leaf (t d) ≡ true → is_leaf (settled ks t o d) ≡ true
settled-leaf ks t o d held h = grind (arith, put-leaf)

-- and where a name goes
dropped-leaf : (ks : List Table) (t : Tree) (p : Path) (d : NodeId) → is_held ks d ≡ true → is_leaf (t d) ≡ true → is_leaf (dropped ks t p d) ≡ true
dropped-leaf ks t p d held h = grind (arith, settled-leaf, way-leaf, change-leaf, fewer-leaf)

-- a file that moves is one still
moved-leaf : (m : MountOptions) (x : Node) → is_leaf (Some x) ≡ true → is_leaf (Some (meta_touched m x)) ≡ true
moved-leaf m x h = grind arith

-- mkdir leaves each file one
pub mkdir-leaves : (p : Path) (mode : ℕ) → KeepsLeaves (call.Mkdir p mode)
mkdir-leaves p mode s kept c d h = made-leaf s.tree s.serial kept (way_of s.tree p) (Branch (fresh mode) false fin.empty 1) d h

-- symlink does
pub symlink-leaves : (target : List ℕ) (p : Path) → KeepsLeaves (call.Symlink target p)
symlink-leaves target p s kept c d h = made-leaf s.tree s.serial kept (way_of s.tree p) (Leaf (SymbolicLink target) (fresh 0o777) (Own false) 1) d h

-- link does
pub link-leaves : (p q : Path) → KeepsLeaves (call.Hardlink p q)
link-leaves p q s kept c d h = grind (arith, way-leaf, change-leaf, more-leaf)

-- chmod does
pub chmod-leaves : (p : Path) (mode : ℕ) → KeepsLeaves (call.Chmod p mode)
chmod-leaves p mode s kept c d h = change-leaf _ (altered-leaf s.options (with_mode mode)) s.tree (node_at s.tree p) d h

-- chown does
pub chown-leaves : (p : Path) (uid gid : ℕ) → KeepsLeaves (call.Chown p uid gid)
chown-leaves p uid gid s kept c d h = change-leaf _ (altered-leaf s.options (with_owner uid gid)) s.tree (node_at s.tree p) d h

-- setting a user attribute does
pub set-leaves : (p : Path) (n v : List ℕ) → KeepsLeaves (call.SetAttribute p n v)
set-leaves p n v s kept c d h = change-leaf _ (altered-leaf s.options (λ a. record a { user = set_value a.user n v })) s.tree (node_at s.tree p) d h

-- deleting one does
pub delete-leaves : (p : Path) (n : List ℕ) → KeepsLeaves (call.DeleteAttribute p n)
delete-leaves p n s kept c d h = change-leaf _ (altered-leaf s.options (λ a. record a { user = drop_value a.user n })) s.tree (node_at s.tree p) d h

-- an open does, whether it makes its file or finds it
pub open-leaves : (p : Path) (f : OpenFlags) (mode : ℕ) → KeepsLeaves (call.Open p f mode)
open-leaves p f mode s kept c d h = grind (arith, made-leaf, change-leaf, opened-leaf)

-- unlink leaves each file one that a handle is open on
pub unlink-leaves : (p : Path) → KeepsHeldLeaves (call.Unlink p)
unlink-leaves p s kept c d held h = dropped-leaf s.tables s.tree p d held h

-- and so does rmdir
pub rmdir-leaves : (p : Path) → KeepsHeldLeaves (call.Rmdir p)
rmdir-leaves p s kept c d held h = dropped-leaf s.tables s.tree p d held h

-- rename leaves each file one that a handle is open on
pub rename-leaves : (p q : Path) → KeepsHeldLeaves (call.Rename p q)
rename-leaves p q s kept c d held h = by (same_found (look s.tree p) (look s.tree q))
  where
    leaf : is_leaf (renamed s.options s.tree p q d) ≡ true
    leaf = grind (arith, way-leaf, change-leaf, moved-leaf, fewer-leaf)

    by : (b : Bool) → is_leaf (cond b s.tree (settled s.tables (renamed s.options s.tree p q) (node_at s.tree q)) d) ≡ true
    by true = h
    by false = settled-leaf s.tables (renamed s.options s.tree p q) (node_at s.tree q) d held leaf
