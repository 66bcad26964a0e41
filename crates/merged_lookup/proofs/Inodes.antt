-- An inode that is shown stands under its key, in the layer that shows it.
use Rattle.std.proofs.Common.{◌≡◌, ℕ, suc, Bool, true, false, List, [], ◌∷◌, Option, None, Some, refl, sym, ap, ◌∙◌, subst, is_some, map, drop}
use Rattle.std.specs.Prelude.{slice_get}
use Rattle.std.specs.Option.{option_and_then}
use Rattle.slab.specs.Slab.{get}
use Rattle.plain_model.specs.Layers.{Path, Object, Directory, Named, Whiteout, Inode, Layer, held, below, cuts, Shown, Contents, over, unless, shows}
use Rattle.layer_tree.specs.Tree.{Tree, IsHeldTogether, layer_of, inode_of, inode_at}
use Rattle.layer_tree.specs.declared.node.Inode as stored
use Rattle.layer_tree.specs.declared.node.Node.{Node}
use Rattle.layer_tree.specs.declared.node.Node.TheVariants as node
use Rattle.merged_lookup.specs.declared.layers.Layers.{Layers}
use Rattle.ov_base.specs.declared.place.Place.{Place}
use Rattle.merged_lookup.specs.Merged.{trees, node_in, lowers_of, ShowsInode}
use Rattle.merged_lookup.proofs.Descending.{drop-get}
use Rattle.merged_lookup.proofs.Filled.{raw_shown, IsInodeOf, raw-inode}
use Rattle.merged_lookup.proofs.Looking.{inode-shown}

-- the layer names this inode at the path
pub record IsNamed (U : Layer) (p : Path) (k : ℕ) (x : Option Inode) : Type 0 where
  pub named : held U p ≡ Some (Named k)
  pub inode : U.inodes k ≡ x

-- the layer of this number names the inode
record NamesInode (ts : List Tree) (j k : ℕ) (x : Option Inode) : Type 0 where
  pub tree : Tree
  pub is : slice_get ts j ≡ Some tree
  pub path : Path
  pub there : IsNamed (layer_of tree) path k x

over-names : (i : ℕ) (ts : List Tree) (t : Tree) (p : Path) (j k : ℕ) (x : Option Inode) (o : Option Object) (c : Bool) (y : Option Shown) → slice_get ts i ≡ Some t → held (layer_of t) p ≡ o → (y ≡ Some (Contents j k x) → NamesInode ts j k x) → over i (inode_at t) o (unless c y) ≡ Some (Contents j k x) → NamesInode ts j k x
over-names i ts t p j k x None true y at is rest h = cc
over-names i ts t p j k x None false y at is rest h = rest h
over-names i ts t p j k x (Some Whiteout) c y at is rest h = cc
over-names i ts t p j k x (Some (Directory m b u r)) c y at is rest h = cc
over-names i ts t p j k x (Some (Named m)) c y at is rest h =
    let ij : i ≡ j = cc in
    let mk : m ≡ k = cc in
    let ix : inode_at t m ≡ x = cc in
    record { tree = t; is = sym (ap (slice_get ts) ij) ∙ at; path = p; there = record { named = is ∙ ap (λ z. Some (Named z)) mk; inode = sym (ap (inode_at t) mk) ∙ ix } }

-- the layer of an inode that is shown names it
names-inode : (i : ℕ) (ts us : List Tree) → drop i ts ≡ us → (p : Path) (j k : ℕ) (x : Option Inode) → shows i (map layer_of us) p ≡ Some (Contents j k x) → NamesInode ts j k x
names-inode i ts [] e p j k x h = cc
names-inode i ts (t ∷ us) e p j k x h =
    let d : (slice_get ts i ≡ Some t) × (drop (suc i) ts ≡ us) = drop-get ts i t us e in
    over-names i ts t p j k x (held (layer_of t) p) (cuts (layer_of t) p) (shows (suc i) (map layer_of us) (below (layer_of t) p)) d.0 refl (names-inode (suc i) ts us d.1 (below (layer_of t) p) j k x) h

is-there : (x : Option Inode) → is_some x ≡ true → (i : Inode) × (x ≡ Some i)
is-there None h = cc
is-there (Some i) h = (i, refl)

-- an inode that a layer names is there
named-there : (L : Layer) (p : Path) (k : ℕ) (x : Option Inode) → IsHeldTogether L → IsNamed L p k x → (i : Inode) × (x ≡ Some i)
named-there L p k x together n = is-there x (subst (λ (o : Option Inode). is_some o ≡ true) n.inode (together.present p k n.named))

-- the layer of an inode that is shown is there
pub layer-there : (l : Layers) (p : Path) (d : Place) → ShowsInode l p d → (t : Tree) × (slice_get (trees l) d.layer ≡ Some t)
layer-there l p d s =
    let r : IsInodeOf (lowers_of l) (raw_shown l p) d.layer d.key s.inode = raw-inode l p d.layer d.key s.inode s.shown in
    let f : NamesInode (trees l) d.layer d.key r.raw = names-inode 0 (trees l) (trees l) refl p d.layer d.key r.raw r.is in
    (f.tree, f.is)

-- what it names there is an inode
names-there : (ts : List Tree) (j k : ℕ) (x : Option Inode) (t : Tree) → NamesInode ts j k x → slice_get ts j ≡ Some t → IsHeldTogether (layer_of t) → (i : Inode) × (x ≡ Some i)
names-there ts j k x t f at together =
    let two : Some f.tree ≡ Some t = sym f.is ∙ at in
    let same : f.tree ≡ t = cc in
    named-there (layer_of t) f.path k x together (subst (λ (z : Tree). IsNamed (layer_of z) f.path k x) same f.there)

shown-there : (y : Option Shown) (j k : ℕ) (x : Option Inode) → y ≡ Some (Contents j k x) → (i : Inode) × (x ≡ Some i) → (i : Inode) × (y ≡ Some (Contents j k (Some i)))
shown-there y j k x h there = (there.0, h ∙ ap (λ z. Some (Contents j k z)) there.1)

-- and the inode stands in it, as the trees show it
pub inode-stands-in : (l : Layers) (p : Path) (d : Place) (t : Tree) → slice_get (trees l) d.layer ≡ Some t → IsHeldTogether (layer_of t) → ShowsInode l p d → (i : Inode) × (raw_shown l p ≡ Some (Contents d.layer d.key (Some i)))
inode-stands-in l p d t at together s =
    let r : IsInodeOf (lowers_of l) (raw_shown l p) d.layer d.key s.inode = raw-inode l p d.layer d.key s.inode s.shown in
    shown-there (raw_shown l p) d.layer d.key r.raw r.is
    (names-there (trees l) d.layer d.key r.raw t (names-inode 0 (trees l) (trees l) refl p d.layer d.key r.raw r.is) at together)

-- this node is an inode, and what is shown is that inode
pub record IsShownInode (x : Option Node) (j k : ℕ) (y : Option Shown) : Type 0 where
  pub inode : stored.Inode
  pub is : x ≡ Some (node.Inode inode)
  pub shown : y ≡ Some (Contents j k (inode_of (node.Inode inode)))

seen-inode : (x : Option Node) (j k : ℕ) (y : Option Shown) (i : Inode) → option_and_then inode_of x ≡ Some i → y ≡ Some (Contents j k (Some i)) → IsShownInode x j k y
seen-inode None j k y i h s = cc
seen-inode (Some (node.Directory d)) j k y i h s = cc
seen-inode (Some (node.Inode z)) j k y i h s = record { inode = z; is = refl; shown = s ∙ ap (λ (o : Option Inode). Some (Contents j k o)) (sym h) }

-- and is what stands under the key
pub inode-node : (l : Layers) (p : Path) (d : Place) (t : Tree) → slice_get (trees l) d.layer ≡ Some t → IsHeldTogether (layer_of t) → ShowsInode l p d → IsShownInode (get t d.key) d.layer d.key (raw_shown l p)
inode-node l p d t at together s =
    let i = inode-stands-in l p d t at together s in
    let seen : option_and_then inode_of (node_in (trees l) d) ≡ Some i.0 = inode-shown 0 (trees l) (trees l) refl p d.layer d.key (Some i.0) i.1 in
    let here : node_in (trees l) d ≡ get t d.key = ap (option_and_then (λ (z : Tree). get z d.key)) at in
    seen-inode (get t d.key) d.layer d.key (raw_shown l p) i.0 (ap (option_and_then inode_of) (sym here) ∙ seen) i.1
