-- What a mount shows is what its trees show, with the upper's files filled.
use Rattle.std.proofs.Common.{◌≡◌, ℕ, zero, suc, List, Option, None, Some, refl, sym, ap, ◌∙◌, is_some, map, option_map}
use Rattle.ov_base.specs.declared.attributes.Attributes.{Attributes}
use Rattle.ov_base.specs.declared.bytes.Content.{Content}
use Rattle.ov_base.specs.declared.bytes.Content.TheVariants.{File, SymbolicLink}
use Rattle.plain_model.specs.Layers.{Path, Inode, Layer, Shown, Folder, Contents, shows, fill, file_or, content_over}
use Rattle.plain_model.proofs.FilledSights.{fill_shown, shows-filled}
use Rattle.layer_tree.specs.Tree.{layer_of}
use Rattle.merged_lookup.specs.declared.layers.Layers.{Layers}
use Rattle.merged_lookup.specs.Merged.{trees, lowers_of, layers_of, fill_at, inode_fault}
use Rattle.merged_lookup.specs.Locating.{place_of}

-- what the trees show at a path
abbrev pub raw_shown : Layers → Path → Option Shown
raw_shown l p = shows 0 (map layer_of (trees l)) p

pub filled-shown : (l : Layers) (p : Path) → shows 0 (layers_of l) p ≡ fill_shown (lowers_of l) (raw_shown l p)
filled-shown l p = shows-filled (layer_of l.upper) (lowers_of l) p

fill-place : (Ls : List Layer) (x : Option Shown) → place_of (fill_shown Ls x) ≡ place_of x
fill-place Ls None = refl
fill-place Ls (Some (Folder i k a)) = refl
fill-place Ls (Some (Contents zero k y)) = refl
fill-place Ls (Some (Contents (suc i) k y)) = refl

fill-some : (Ls : List Layer) (x : Option Shown) → is_some (fill_shown Ls x) ≡ is_some x
fill-some Ls None = refl
fill-some Ls (Some (Folder i k a)) = refl
fill-some Ls (Some (Contents zero k y)) = refl
fill-some Ls (Some (Contents (suc i) k y)) = refl

-- at the same place
pub same-place : (l : Layers) (p : Path) → place_of (shows 0 (layers_of l) p) ≡ place_of (raw_shown l p)
same-place l p = ap place_of (filled-shown l p) ∙ fill-place (lowers_of l) (raw_shown l p)

pub same-some : (l : Layers) (p : Path) → is_some (shows 0 (layers_of l) p) ≡ is_some (raw_shown l p)
same-some l p = ap is_some (filled-shown l p) ∙ fill-some (lowers_of l) (raw_shown l p)

-- a directory is shown as the trees show it
folder-raw : (Ls : List Layer) (x : Option Shown) (j k : ℕ) (a : Attributes) → fill_shown Ls x ≡ Some (Folder j k a) → x ≡ Some (Folder j k a)
folder-raw Ls None j k a h = h
folder-raw Ls (Some (Folder i m b)) j k a h = h
folder-raw Ls (Some (Contents zero m y)) j k a h = cc
folder-raw Ls (Some (Contents (suc i) m y)) j k a h = h

pub raw-folder : (l : Layers) (p : Path) (j k : ℕ) (a : Attributes) → shows 0 (layers_of l) p ≡ Some (Folder j k a) → raw_shown l p ≡ Some (Folder j k a)
raw-folder l p j k a h = folder-raw (lowers_of l) (raw_shown l p) j k a (sym (filled-shown l p) ∙ h)

pub folder-filled : (l : Layers) (p : Path) (j k : ℕ) (a : Attributes) → raw_shown l p ≡ Some (Folder j k a) → shows 0 (layers_of l) p ≡ Some (Folder j k a)
folder-filled l p j k a h = filled-shown l p ∙ ap (fill_shown (lowers_of l)) h

-- and nothing where they show nothing
pub nothing-filled : (l : Layers) (p : Path) → raw_shown l p ≡ None → shows 0 (layers_of l) p ≡ None
nothing-filled l p h = filled-shown l p ∙ ap (fill_shown (lowers_of l)) h

-- an inode is shown as the trees show it, filled where it is the upper's
fill-inode : (Ls : List Layer) (j k : ℕ) (y : Option Inode) → fill_shown Ls (Some (Contents j k y)) ≡ Some (Contents j k (fill_at j Ls y))
fill-inode Ls zero k y = refl
fill-inode Ls (suc j) k y = refl

pub inode-filled : (l : Layers) (p : Path) (j k : ℕ) (y : Option Inode) → raw_shown l p ≡ Some (Contents j k y) → shows 0 (layers_of l) p ≡ Some (Contents j k (fill_at j (lowers_of l) y))
inode-filled l p j k y h = filled-shown l p ∙ ap (fill_shown (lowers_of l)) h ∙ fill-inode (lowers_of l) j k y

-- this inode is shown, and is that of the trees, filled where it is the upper's
pub record IsInodeOf (Ls : List Layer) (x : Option Shown) (j k : ℕ) (i : Option Inode) : Type 0 where
  pub raw : Option Inode
  pub is : x ≡ Some (Contents j k raw)
  pub same : i ≡ fill_at j Ls raw

inode-raw : (Ls : List Layer) (x : Option Shown) (j k : ℕ) (i : Option Inode) → fill_shown Ls x ≡ Some (Contents j k i) → IsInodeOf Ls x j k i
inode-raw Ls None j k i h = cc
inode-raw Ls (Some (Folder m n a)) j k i h = cc
inode-raw Ls (Some (Contents zero m y)) j k i h =
    let layer : zero ≡ j = cc in
    let key : m ≡ k = cc in
    let inode : option_map (fill Ls) y ≡ i = cc in
    record { raw = y; is = ap (λ z. Some (Contents z m y)) layer ∙ ap (λ z. Some (Contents j z y)) key; same = sym inode ∙ ap (λ z. fill_at z Ls y) layer }
inode-raw Ls (Some (Contents (suc n) m y)) j k i h =
    let layer : suc n ≡ j = cc in
    let inode : y ≡ i = cc in
    record { raw = y; is = h ∙ ap (λ z. Some (Contents j k z)) (sym inode); same = sym inode ∙ ap (λ z. fill_at z Ls y) layer }

pub raw-inode : (l : Layers) (p : Path) (j k : ℕ) (i : Option Inode) → shows 0 (layers_of l) p ≡ Some (Contents j k i) → IsInodeOf (lowers_of l) (raw_shown l p) j k i
raw-inode l p j k i h = inode-raw (lowers_of l) (raw_shown l p) j k i (sym (filled-shown l p) ∙ h)

-- why a walk can't go on from an inode, filled or not
fill-fault : (Ls : List Layer) (j : ℕ) (o : Option Inode) → inode_fault (fill_at j Ls o) ≡ inode_fault o
fill-fault Ls zero None = refl
fill-fault Ls zero (Some i) = by i.mark i.content
  where
    from : (bytes : List ℕ) (s : Option Shown) → inode_fault (Some (record i { content = file_or (File bytes) s })) ≡ inode_fault (Some (record i { content = File bytes }))
    from bytes None = refl
    from bytes (Some (Folder n k a)) = refl
    from bytes (Some (Contents n k None)) = refl
    from bytes (Some (Contents n k (Some x))) = of x.content
      where
        of : (c : Content) → inode_fault (Some (record i { content = file_or (File bytes) (Some (Contents n k (Some (record x { content = c })))) })) ≡ inode_fault (Some (record i { content = File bytes }))
        of (File b) = refl
        of (SymbolicLink t) = refl

    by : (m : Option Path) (c : Content) → inode_fault (Some (record i { content = content_over Ls m c })) ≡ inode_fault (Some (record i { content = c }))
    by None c = refl
    by (Some q) (File bytes) = from bytes (shows 1 Ls q)
    by (Some q) (SymbolicLink t) = refl
fill-fault Ls (suc j) o = refl

pub same-fault : (Ls : List Layer) (j : ℕ) (o i : Option Inode) → i ≡ fill_at j Ls o → inode_fault i ≡ inode_fault o
same-fault Ls j o i h = ap inode_fault h ∙ fill-fault Ls j o
