-- What is shown at a place of a lower layer is what that layer has under its key.
use Rattle.std.proofs.Common.{◌≡◌, ℕ, zero, suc, ◌<◌, arith, List, [], ◌∷◌, Option, None, Some, IsSome, refl, sym, ap, ◌∙◌, map}
use Rattle.std.specs.Option.{option_and_then, option_map}
use Rattle.ov_base.specs.declared.bytes.Content.{Content}
use Rattle.ov_base.specs.declared.bytes.Content.TheVariants as content
use Rattle.plain_model.specs.Layers.{Path, Inode, Layer, Shown, Contents, shows}
use Rattle.layer_tree.specs.Tree.{Tree, layer_of, inode_of}
use Rattle.layer_tree.specs.declared.node.Inode as stored
use Rattle.layer_tree.specs.declared.node.Node.TheVariants as node
use Rattle.merged_lookup.specs.declared.layers.Layers.{Layers}
use Rattle.ov_base.specs.declared.place.Place.{Place}
use Rattle.merged_lookup.specs.Lower.{lower_inode, file_bytes, lower_bytes}
use Rattle.merged_lookup.specs.Marking.{file_content}
use Rattle.merged_lookup.specs.Merged.{trees, node_in, fill_at, layers_of, lowers_of}
use Rattle.merged_lookup.proofs.Filled.{raw_shown, IsInodeOf, raw-inode}
use Rattle.merged_lookup.proofs.Looking.{inode_in, inode-shown}

-- the inode of a lower layer is the one at its place
lower-in : (u : Tree) (ts : List Tree) (j k : ℕ) → lower_inode (map layer_of ts) (suc j) k ≡ inode_in (u ∷ ts) (suc j) k
lower-in u [] j k = refl
lower-in u (t ∷ ts) zero k = refl
lower-in u (t ∷ ts) (suc j) k = lower-in t ts j k

-- and the one that is shown
pub lower-shown : (l : Layers) (p : Path) (j k : ℕ) (x : Option Inode) → shows 0 (layers_of l) p ≡ Some (Contents (suc j) k x) → lower_inode (lowers_of l) (suc j) k ≡ x
lower-shown l p j k x h =
    let r : IsInodeOf (lowers_of l) (raw_shown l p) (suc j) k x = raw-inode l p (suc j) k x h in
    lower-in l.upper l.lowers.items j k ∙ inode-shown 0 (trees l) (trees l) refl p (suc j) k r.raw r.is ∙ sym r.same

-- a file with these bytes
bytes-file : (c : Content) (bytes : List ℕ) → file_bytes c ≡ Some bytes → content.File bytes ≡ c
bytes-file (content.File b) bytes h = cc
bytes-file (content.SymbolicLink t) bytes h = cc

-- what a lower inode holds that is shown
pub content-shown : (Ls : List Layer) (j k : ℕ) (y : Option Shown) (z : stored.Inode) (i : Inode) → 0 < j → y ≡ Some (Contents j k (Some i)) → y ≡ Some (Contents j k (fill_at j Ls (inode_of (node.Inode z)))) → z.content ≡ i.content
content-shown Ls zero k y z i lower h e = absurd (omega (arith, lower))
content-shown Ls (suc j) k y z i lower h e =
    let two : Some (Contents (suc j) k (inode_of (node.Inode z))) ≡ Some (Contents (suc j) k (Some i)) = sym e ∙ h in
    let one : inode_of (node.Inode z) ≡ Some i = cc in
    let both : Some z.content ≡ Some i.content = ap (option_map (λ (v : Inode). v.content)) one in
    cc

-- the bytes of an inode that is a file
file-bytes : (i : Inode) (b : List ℕ) → file_content (Some i) ≡ Some (content.File b) → file_bytes i.content ≡ Some b
file-bytes i b = by i.content
  where
    by : (c : Content) → file_content (Some (record i { content = c })) ≡ Some (content.File b) → file_bytes c ≡ Some b
    by (content.File bytes) h = cc
    by (content.SymbolicLink target) h = cc

inode-bytes : (o : Option Inode) (b : List ℕ) → file_content o ≡ Some (content.File b) → option_and_then (λ (x : Inode). file_bytes x.content) o ≡ Some b
inode-bytes None b h = cc
inode-bytes (Some i) b h = file-bytes i b h

-- the bytes of the file that stands at a place of a lower layer
pub bytes-low : (l : Layers) (d : Place) (b : List ℕ) → IsSome (lower_bytes (lowers_of l) d) → file_content (option_and_then inode_of (node_in (trees l) d)) ≡ Some (content.File b) →
    lower_bytes (lowers_of l) d ≡ Some b
bytes-low l d b = by d.layer
  where
    by : (j : ℕ) → IsSome (lower_bytes (lowers_of l) (record d { layer = j })) → file_content (inode_in (trees l) j d.key) ≡ Some (content.File b) →
        lower_bytes (lowers_of l) (record d { layer = j }) ≡ Some b
    by zero some at = cc
    by (suc j) some at =
        ap (option_and_then (λ (x : Inode). file_bytes x.content)) (lower-in l.upper l.lowers.items j d.key) ∙ inode-bytes (inode_in (trees l) (suc j) d.key) b at
