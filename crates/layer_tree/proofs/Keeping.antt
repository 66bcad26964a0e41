-- A tree stays a layer in the words of the definitions, whatever is inserted in it or taken out of it.
use Rattle.std.proofs.Common.{◌≡◌, ◌≢◌, ℕ, List, [], ◌∷◌, ◌++◌, Option, Some, None, refl, sym, ap, ◌∙◌, inl, inr}
use Rattle.std.specs.Option.{option_and_then}
use Rattle.std.specs.Prelude.{option_map}
use Rattle.slab.specs.Slab.{get}
use Rattle.ov_base.specs.declared.bytes.Content.TheVariants as content
use Rattle.plain_model.specs.Layers as layers
use Rattle.plain_model.specs.Layers.{Path, Named, held, IsLayer}
use Rattle.layer_tree.specs.Table.{object_key}
use Rattle.layer_tree.specs.Tree.{Tree, inode_of, seen, seen_object, new_inode, entry, child, key_at, entry_at, seen_at, seen_entry, inode_at, layer_of, with_less, IsTree, HoldsNoObjects, Inserts, Unbinds, SetsPath, ReplacesPath, SameTree, SameObjects}
use Rattle.layer_tree.specs.declared.name_table.Entry.{Entry}
use Rattle.layer_tree.specs.declared.name_table.Entry.TheVariants as to
use Rattle.layer_tree.specs.declared.node.Node.{Node}
use Rattle.layer_tree.specs.declared.node.Node.TheVariants as node
use Rattle.layer_tree.specs.declared.node.Object.{Object}
use Rattle.layer_tree.specs.declared.node.Object.TheVariants as object
use Rattle.layer_tree.proofs.Walks.{unwrapped}
use Rattle.layer_tree.proofs.Unlinking.{cases_key}
use Rattle.layer_tree.proofs.Changing.{key_of_entry}
use Rattle.layer_tree.proofs.Roots.{links_of}
use Rattle.layer_tree.proofs.Held.{held_together}
use Rattle.layer_tree.proofs.Layers.{Names, IsLayer-alike, IsLayer-replaced, IsLayer-set}

-- a key under which an inode is seen by this number is the number
named_under : (t : Tree) (j k : ℕ) → seen_at t j ≡ Some (Named k) → j ≡ k
named_under t j k h = of (get t j) h
  where
    of : (o : Option Node) → option_map (seen j) o ≡ Some (Named k) → j ≡ k
    of None h = absurd (cc)
    of (Some (node.Directory d)) h = absurd (cc)
    of (Some (node.Inode i)) h = cc

-- an inode is seen by the number of its key
pub inode_seen : (t : Tree) (k : ℕ) (i : layers.Inode) → inode_at t k ≡ Some i → seen_at t k ≡ Some (Named k)
inode_seen t k i h = of (get t k) h
  where
    of : (o : Option Node) → option_and_then inode_of o ≡ Some i → option_map (seen k) o ≡ Some (Named k)
    of None h = absurd (cc)
    of (Some (node.Directory d)) h = absurd (cc)
    of (Some (node.Inode j)) h = refl

-- a path that names an inode leads to its key
pub named_key : (t : Tree) (n : List ℕ) (p : Path) (k : ℕ) → Names (layer_of t) k (n ∷ p) → key_at t (n ∷ p) ≡ Some k
named_key t n p k h = key_of_entry t (n ∷ p) ∙ of (entry_at t (n ∷ p)) h
  where
    of : (o : Option Entry) → option_and_then (seen_entry t) o ≡ Some (Named k) → option_and_then object_key o ≡ Some k
    of None h = absurd (cc)
    of (Some to.Whiteout) h = absurd (cc)
    of (Some (to.Object j)) h = ap Some (named_under t j k h)

-- where nothing changes but room, a layer stays one
pub IsLayer-same : (old new : Tree) → SameTree old new → SameObjects (layer_of old) (layer_of new) → IsLayer (layer_of old) → IsLayer (layer_of new)
IsLayer-same old new same objects = IsLayer-alike (layer_of old) (layer_of new) objects (λ k. ap (option_map links_of) (same.inodes k))

-- what a name leads to has no objects in it, also in a tree that is alike
pub HoldsNoObjects-alike : (old new : Tree) → SameTree old new → (dir : ℕ) (name : List ℕ) → HoldsNoObjects old dir name → HoldsNoObjects new dir name
HoldsNoObjects-alike old new same dir name bare key led n =
    let child_same = λ (d : ℕ) (m : List ℕ). ap (option_and_then object_key) (same.entries d m) in
    child_same key n ∙ bare key (sym (child_same dir name) ∙ led) n

-- a name that leads to no object with others in it
module _ (old : Tree) (dir : ℕ) (name : List ℕ) (path : Path) (at : key_at old path ≡ Some dir) (bare : HoldsNoObjects old dir name) where
  -- what is at the name is held at its path
  entry_here : entry_at old (name ∷ path) ≡ entry old dir name
  entry_here = ap (option_and_then (λ key. entry old key name)) at

  -- the path leads to what the name leads to
  key_here : key_at old (name ∷ path) ≡ child old dir name
  key_here = ap (option_and_then (λ key. child old key name)) at

  -- below the name no path leads to a key
  no_key_below : (n : List ℕ) (s : Path) → key_at old (n ∷ (s ++ name ∷ path)) ≡ None
  no_key_below n [] = ap (option_and_then (λ key. child old key n)) key_here ∙ of (child old dir name) refl
    where
      of : (o : Option ℕ) → child old dir name ≡ o → option_and_then (λ key. child old key n) o ≡ None
      of None f = refl
      of (Some key) f = bare key f n
  no_key_below n (m ∷ s) = ap (option_and_then (λ key. child old key n)) (no_key_below m s)

  -- below the name no path names an inode
  pub none_below : (n : List ℕ) (s : Path) (k : ℕ) → held (layer_of old) (n ∷ (s ++ name ∷ path)) ≢ Some (Named k)
  none_below n s k h =
      let found : key_at old (n ∷ (s ++ name ∷ path)) ≡ Some k = named_key old n (s ++ name ∷ path) k h in
      let none : key_at old (n ∷ (s ++ name ∷ path)) ≡ None = no_key_below n s in
      absurd (cc)

  -- the name leads to an inode that its path names
  pub led : (k : ℕ) → Names (layer_of old) k (name ∷ path) → child old dir name ≡ Some k
  led k h = sym key_here ∙ named_key old name path k h

  -- the path names an inode to which the name leads
  named : (k : ℕ) (i : layers.Inode) → inode_at old k ≡ Some i → child old dir name ≡ Some k → Names (layer_of old) k (name ∷ path)
  named k i is f = ap (option_and_then (seen_entry old)) entry_here ∙ of (entry old dir name) f
    where
      of : (o : Option Entry) → option_and_then object_key o ≡ Some k → option_and_then (seen_entry old) o ≡ Some (Named k)
      of None f = absurd (cc)
      of (Some to.Whiteout) f = absurd (cc)
      of (Some (to.Object j)) f = ap (seen_at old) (unwrapped j k f) ∙ inode_seen old k i is

  -- where the inode that the name leads to has one name less, one that the path doesn't name stays
  pub inode_left : (new : Tree) → ((k : ℕ) → child old dir name ≡ Some k → inode_at new k ≡ option_map with_less (inode_at old k)) → ((k : ℕ) → child old dir name ≢ Some k → inode_at new k ≡ inode_at old k) → (k : ℕ) → (Names (layer_of old) k (name ∷ path) → ⊥) → inode_at new k ≡ inode_at old k
  inode_left new unlinked inodes k off =
      elim (cases_key (child old dir name) k) [
        | inl f ↦ unlinked k f ∙ of (inode_at old k) refl f
        | inr away ↦ inodes k away
      ]
    where
      of : (o : Option layers.Inode) → inode_at old k ≡ o → child old dir name ≡ Some k → option_map with_less o ≡ o
      of None is f = refl
      of (Some i) is f = absurd (off (named k i is f))

-- a name that leads to no object any more
module _ (old new : Tree) (dir : ℕ) (name : List ℕ) (e : Option Entry) (u : Unbinds old new dir name e) (path : Path) (at : key_at old path ≡ Some dir) (bare : HoldsNoObjects old dir name) where
  -- the layer after it
  pub IsLayer-unbinds : (o : Option layers.Object) → ((k : ℕ) → o ≢ Some (Named k)) → ReplacesPath (layer_of old) (layer_of new) (name ∷ path) o → IsTree new → IsLayer (layer_of old) → IsLayer (layer_of new)
  IsLayer-unbinds o no_name replaces tree =
      IsLayer-replaced (layer_of old) (layer_of new) (name ∷ path) o replaces no_name (none_below old dir name path at bare) (λ k h. u.unlinked k (led old dir name path at bare k h)) (inode_left old dir name path at bare new u.unlinked u.inodes) (held_together new tree)

-- a new object has its name
pub IsLayer-inserts : (old new : Tree) (dir : ℕ) (name : List ℕ) (o : Object) (key : ℕ) → Inserts old new dir name o key → child old dir name ≡ None → (path : Path) → key_at old path ≡ Some dir → SetsPath (layer_of old) (layer_of new) (name ∷ path) (seen_object key o) → IsTree new → IsLayer (layer_of old) → IsLayer (layer_of new)
IsLayer-inserts old new dir name o key ins no_object path at sets tree =
    IsLayer-set (layer_of old) (layer_of new) (name ∷ path) (seen_object key o) key sets vacant (ap (option_and_then inode_of) ins.fresh) (λ i h. first o i (sym ins.inode ∙ h)) (λ k off. (ins.inodes k off, differs o k off)) (held_together new tree)
  where
    vacant : (k : ℕ) → Names (layer_of old) k (name ∷ path) → ⊥
    vacant k h =
        let found : key_at old (name ∷ path) ≡ Some k = named_key old name path k h in
        let none : key_at old (name ∷ path) ≡ None = ap (option_and_then (λ j. child old j name)) at ∙ no_object in
        absurd (cc)

    first : (o : Object) (i : layers.Inode) → new_inode o ≡ Some i → (seen_object key o ≡ Named key) × (i.links ≡ 1)
    first (object.Directory a m) i h = absurd (cc)
    first (object.Inode c a) i h = (refl, sym (ap (λ (x : layers.Inode). x.links) (unwrapped (record { content = c; attributes = a; links = 1; mark = None }) i h)))
    first (object.Marked q a) i h = (refl, sym (ap (λ (x : layers.Inode). x.links) (unwrapped (record { content = content.File []; attributes = a; links = 1; mark = Some q.value }) i h)))

    differs : (o : Object) (k : ℕ) → k ≢ key → seen_object key o ≢ Named k
    differs (object.Directory a m) k off f = cc
    differs (object.Inode c a) k off f = off (cc)
    differs (object.Marked q a) k off f = off (cc)
