-- Which objects bear a mark that leads to no file, which layers have one, and which layers are a mount.
use Rattle.std.proofs.Common.{◌≡◌, ◌<◌, ℕ, zero, suc, List, [], ◌∷◌, true, false, Option, None, Some, Any, arith, refl, sym, ap, ◌∙◌, subst, length, map, get_or}
use Rattle.std.proofs.lemmas.Bool.{false≢true, not-true}
use Rattle.std.specs.Option.{option_and_then}
use Rattle.slab.specs.Slab.{get}
use Rattle.plain_model.specs.Layers.{Inode, Layer, Path, shows}
use Rattle.layer_tree.specs.Tree.{Tree, inode_of, layer_of}
use Rattle.layer_tree.specs.declared.node.Node.{Node}
use Rattle.overlay_core.specs.Marks.{astray, goes_astray}
use Rattle.overlay_core.specs.Mounting.{IsAstray, shows_file}

-- a mark that is astray is one
astray-mark : (lowers : List Layer) (o : Option Path) → astray lowers o ≡ true → (q : Path) × (o ≡ Some q) × (shows_file (shows 1 lowers q) ≡ false)
astray-mark lowers None h = absurd (false≢true h)
astray-mark lowers (Some q) h = (q, refl, not-true (shows_file (shows 1 lowers q)) h)

-- an inode with one bears it
astray-inode : (lowers : List Layer) (o : Option Inode) → astray lowers (option_and_then (λ (i : Inode). i.mark) o) ≡ true → (i : Inode) × (q : Path) × (o ≡ Some i) × (i.mark ≡ Some q) × (shows_file (shows 1 lowers q) ≡ false)
astray-inode lowers None h = absurd (false≢true h)
astray-inode lowers (Some i) h = let m = astray-mark lowers i.mark h in (i, m.0, refl, m.1, m.2)

-- where an object goes astray its layer does
pub astray-layer : (lowers : List Layer) (t : Tree) (key : ℕ) (n : Node) → get t key ≡ Some n → goes_astray lowers n ≡ true → IsAstray (layer_of t) lowers
astray-layer lowers t key n found h =
    let a = astray-inode lowers (inode_of n) h in
    (key, a.0, a.1, ap (option_and_then inode_of) found ∙ a.2, a.3, a.4)

-- what holds of some layer of these holds of some tree
pub any-tree : (P : Layer → Type 0) (ts : List Tree) → Any P (map layer_of ts) → Any (λ t. P (layer_of t)) ts
any-tree P ts h = at ts h.0 h.1 h.2 h.3 h.4
  where
    at : (ts : List Tree) (k : ℕ) (x : Layer) → k < length (map layer_of ts) → get_or (map layer_of ts) k x ≡ x → P x → Any (λ t. P (layer_of t)) ts
    at [] k x within is p = absurd (omega (arith, within))
    at (t ∷ ts) zero x within is p = (0, t, omega arith, refl, subst P (sym is) p)
    at (t ∷ ts) (suc k) x within is p = let m = at ts k x (omega (arith, within)) is p in (suc m.0, m.1, omega (arith, m.2), m.3, m.4)

-- and back
pub any-layer : (P : Layer → Type 0) (ts : List Tree) (k : ℕ) (t : Tree) → k < length ts → get_or ts k t ≡ t → P (layer_of t) → Any P (map layer_of ts)
any-layer P [] k t within is p = absurd (omega (arith, within))
any-layer P (s ∷ ts) zero t within is p = (0, layer_of s, omega arith, refl, subst (λ t. P (layer_of t)) (sym is) p)
any-layer P (s ∷ ts) (suc k) t within is p = let m = any-layer P ts k t (omega (arith, within)) is p in (suc m.0, m.1, omega (arith, m.2), m.3, m.4)
