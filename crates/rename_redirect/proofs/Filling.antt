-- What a change makes of a tree it makes of it as it shows over lower layers.
use Rattle.std.proofs.Common.{◌≡◌, ℕ, List, Option, None, Some, is_some, option_map, refl, subst}
use Rattle.plain_model.specs.Layers.{Path, Object, Inode, Layer, fill, filled, IsLayer}
use Rattle.plain_model.specs.Laws.{Placed}
use Rattle.plain_model.proofs.Filled.{filled-layer}
use Rattle.mount_laws.specs.Leaves.{PlacesLeaf}
use Rattle.mount_laws.specs.Linking.{AddsName}
use Rattle.mount_laws.proofs.Raised.{raised-leaf, raised-name}
use Rattle.layer_tree.specs.Tree.{Tree, layer_of, with_less}
use Rattle.merged_lookup.specs.declared.layers.Layers.{Layers}
use Rattle.merged_lookup.specs.Merged.{upper_of, lowers_of}
use Rattle.copy_up.proofs.Copying.{leaf_of}
use Rattle.copy_up.proofs.Raising.{raise, raw-layer}

-- a tree as it shows over lower layers
abbrev pub full : Tree → List Layer → Layer
full t lowers = filled (layer_of t) lowers

-- where a layer stays one it does as it shows
pub filled-stays : (U V : Layer) (lowers : List Layer) → (IsLayer U → IsLayer V) → IsLayer (filled U lowers) → IsLayer (filled V lowers)
filled-stays U V lowers keep h = filled-layer V lowers (keep (raw-layer U lowers h))

-- an inode is there where it shows
pub some-filled : (lowers : List Layer) (o : Option Inode) → is_some (option_map (fill lowers) o) ≡ is_some o
some-filled lowers None = refl
some-filled lowers (Some i) = refl

-- one with a name fewer shows the same bytes
pub less-filled : (lowers : List Layer) (o : Option Inode) → option_map (fill lowers) (option_map with_less o) ≡ option_map with_less (option_map (fill lowers) o)
less-filled lowers None = refl
less-filled lowers (Some i) = refl

-- a directory that is placed in a layer is placed in it as it shows
pub placed-filled : (U V : Layer) (lowers : List Layer) (p : Path) (o : Option Object) → Placed U V p o → Placed (filled U lowers) (filled V lowers) p o
placed-filled U V lowers p o m = record { here = m.here; beneath = m.beneath; elsewhere = m.elsewhere; inodes = λ i k. option_map (fill lowers) (m.inodes i k) }

-- a further name in the upper is one in it as it shows
pub name-raised : (old new : Layers) → new.lowers ≡ old.lowers → (p q : Path) → AddsName (layer_of old.upper) (layer_of new.upper) p q → AddsName (upper_of old) (upper_of new) p q
name-raised old new low p q m = raise old new low (λ V. AddsName (upper_of old) V p q) (raised-name (lowers_of old) (layer_of old.upper) (layer_of new.upper) p q m)

-- a copy that shows what an inode does is placed as one that holds it
pub leaf-filled : (U V : Layer) (lowers : List Layer) (p : Path) (k : ℕ) (copy i : Inode) → (fill lowers copy).content ≡ i.content → copy.attributes ≡ i.attributes → PlacesLeaf U V p k copy → PlacesLeaf (filled U lowers) (filled V lowers) p k (leaf_of i.content copy.mark i.attributes)
leaf-filled U V lowers p k copy i content attributes m =
    let same : fill lowers copy ≡ leaf_of i.content copy.mark i.attributes = (λ j. record { content = content j; attributes = attributes j; links = m.one j; mark = copy.mark }) in
    subst (PlacesLeaf (filled U lowers) (filled V lowers) p k) same (raised-leaf lowers U V p k copy m)
