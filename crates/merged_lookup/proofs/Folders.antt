-- A directory that is shown stands under its key, with the attributes that it shows.
use Rattle.std.proofs.Common.{◌≡◌, ℕ, suc, Bool, true, false, List, [], ◌∷◌, Option, None, Some, refl, sym, ap, ◌∙◌, subst, slice_get, drop, map}
use Rattle.std.specs.Option.{option_and_then, option_map}
use Rattle.slab.specs.Slab.{get}
use Rattle.ov_base.specs.declared.attributes.Attributes.{Attributes}
use Rattle.ov_base.specs.declared.redirect.Redirect.{Redirect}
use Rattle.plain_model.specs.Layers.{Path, Object, Directory, Named, Whiteout, Inode, held, below, cuts, Shown, Folder, over, unless, shows}
use Rattle.layer_tree.specs.Tree.{Tree, ROOT, IsTree, IsUnmarked, directory_attributes, layer_of, entry_at, seen, seen_entry, seen_at}
use Rattle.layer_tree.specs.declared.name_table.Entry.{Entry}
use Rattle.layer_tree.specs.declared.name_table.Entry.TheVariants as bound
use Rattle.layer_tree.specs.declared.node.Node.{Node}
use Rattle.layer_tree.specs.declared.node.Node.TheVariants as node
use Rattle.layer_tree.specs.declared.node.Directory as stored
use Rattle.merged_lookup.proofs.Descending.{drop-get}

-- this node is a directory with these attributes
pub record IsDirectoryWith (x : Option Node) (a : Attributes) : Type 0 where
  pub directory : stored.Directory
  pub is : x ≡ Some (node.Directory directory)
  pub attributes : directory.attributes ≡ a

root-node : (x : Option Node) → IsUnmarked (option_map (seen ROOT) x) → IsDirectoryWith x (directory_attributes (option_map (seen ROOT) x))
root-node None h = absurd h
root-node (Some (node.Inode i)) h = absurd h
root-node (Some (node.Directory d)) h = record { directory = d; is = refl; attributes = refl }

seen-node : (j : ℕ) (x : Option Node) (k : ℕ) (a : Attributes) (o : Bool) (r : Option Redirect) → option_map (seen j) x ≡ Some (Directory k a o r) → (j ≡ k) × IsDirectoryWith x a
seen-node j None k a o r h = cc
seen-node j (Some (node.Inode i)) k a o r h = cc
seen-node j (Some (node.Directory d)) k a o r h = (cc, record { directory = d; is = refl; attributes = cc })

entry-node : (t : Tree) (e : Option Entry) (k : ℕ) (a : Attributes) (o : Bool) (r : Option Redirect) → option_and_then (seen_entry t) e ≡ Some (Directory k a o r) → IsDirectoryWith (get t k) a
entry-node t None k a o r h = cc
entry-node t (Some bound.Whiteout) k a o r h = cc
entry-node t (Some (bound.Object j)) k a o r h =
    let s : (j ≡ k) × IsDirectoryWith (get t j) a = seen-node j (get t j) k a o r h in
    subst (λ (z : ℕ). IsDirectoryWith (get t z) a) s.0 s.1

-- a directory that a layer holds stands under its key
pub held-node : (t : Tree) → IsTree t → (p : Path) (k : ℕ) (a : Attributes) (o : Bool) (r : Option Redirect) → held (layer_of t) p ≡ Some (Directory k a o r) → IsDirectoryWith (get t k) a
held-node t i [] k a o r h =
    let key : ROOT ≡ k = cc in
    let same : directory_attributes (seen_at t ROOT) ≡ a = cc in
    subst (λ (z : ℕ). IsDirectoryWith (get t z) a) key (subst (λ (b : Attributes). IsDirectoryWith (get t ROOT) b) same (root-node (get t ROOT) i.root))
held-node t i (n ∷ p) k a o r h = entry-node t (entry_at t (n ∷ p)) k a o r h

-- the layer that shows a directory holds it
pub record HoldsFolder (ts : List Tree) (j k : ℕ) (a : Attributes) : Type 0 where
  pub tree : Tree
  pub is : slice_get ts j ≡ Some tree
  pub path : Path
  pub opaque : Bool
  pub redirect : Option Redirect
  pub held : held (layer_of tree) path ≡ Some (Directory k a opaque redirect)

over-folder : (i : ℕ) (ts : List Tree) (t : Tree) (inodes : ℕ → Option Inode) (p : Path) (j k : ℕ) (a : Attributes) (o : Option Object) (c : Bool) (y : Option Shown) → slice_get ts i ≡ Some t → held (layer_of t) p ≡ o → (y ≡ Some (Folder j k a) → HoldsFolder ts j k a) → over i inodes o (unless c y) ≡ Some (Folder j k a) → HoldsFolder ts j k a
over-folder i ts t inodes p j k a None true y at is rest h = cc
over-folder i ts t inodes p j k a None false y at is rest h = rest h
over-folder i ts t inodes p j k a (Some Whiteout) c y at is rest h = cc
over-folder i ts t inodes p j k a (Some (Named m)) c y at is rest h = cc
over-folder i ts t inodes p j k a (Some (Directory m b u r)) c y at is rest h =
    let ij : i ≡ j = cc in
    record { tree = t; is = sym (ap (slice_get ts) ij) ∙ at; path = p; opaque = u; redirect = r; held = cc }

pub folder-held : (i : ℕ) (ts us : List Tree) → drop i ts ≡ us → (p : Path) (j k : ℕ) (a : Attributes) → shows i (map layer_of us) p ≡ Some (Folder j k a) → HoldsFolder ts j k a
folder-held i ts [] e p j k a h = cc
folder-held i ts (t ∷ us) e p j k a h =
    let d : (slice_get ts i ≡ Some t) × (drop (suc i) ts ≡ us) = drop-get ts i t us e in
    over-folder i ts t (layer_of t).inodes p j k a (held (layer_of t) p) (cuts (layer_of t) p) (shows (suc i) (map layer_of us) (below (layer_of t) p)) d.0 refl (folder-held (suc i) ts us d.1 (below (layer_of t) p) j k a) h

-- a directory that is shown stands at its place
pub folder-node : (ts : List Tree) (p : Path) (j k : ℕ) (a : Attributes) (t : Tree) → shows 0 (map layer_of ts) p ≡ Some (Folder j k a) → slice_get ts j ≡ Some t → IsTree t → IsDirectoryWith (get t k) a
folder-node ts p j k a t h at i =
    let f : HoldsFolder ts j k a = folder-held 0 ts ts refl p j k a h in
    let same : f.tree ≡ t = cc in
    held-node t i f.path k a f.opaque f.redirect (sym (ap (λ z. held (layer_of z) f.path) same) ∙ f.held)

pub same-attributes : (d e : stored.Directory) → Some (node.Directory d) ≡ Some (node.Directory e) → d.attributes ≡ e.attributes
same-attributes d e h = let same : d ≡ e = cc in ap (λ (x : stored.Directory). x.attributes) same

pub some-not-none : {A : Type 0} (x : A) → Some x ≡ None → ⊥
some-not-none x e = cc
