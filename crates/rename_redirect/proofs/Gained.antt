-- What the upper holds once parents of one path, or of two, were gained.
use Rattle.std.proofs.Common.{◌≡◌, ◌≢◌, ◌⊎◌, false, [], ◌∷◌, ◌++◌, None, Some, sym, ◌∙◌, subst, inl, inr}
use Rattle.plain_model.specs.Layers.{Name, Path, Directory, Inode, Layer, held}
use Rattle.plain_model.specs.Laws.{IsOutside}
use Rattle.plain_model.proofs.Paths.{place}
use Rattle.mount_laws.specs.Linking.{AddsName}
use Rattle.layer_tree.specs.Tree.{Tree, layer_of}
use Rattle.merged_lookup.specs.declared.layers.Layers.{Layers}
use Rattle.copy_up.specs.Showing.{is_object, KeepsPath}
use Rattle.copy_up.proofs.Placing.{free-directory, nothing-held}
use Rattle.copy_up.proofs.Frames.{parent-since, path-then}
use Rattle.rename_redirect.specs.Linking.{GainsBoth, CopiesName}

-- parents of two paths that are gained one after the other are parents of either
pub gains-paths :
    (a b : Layers) (p q : Path) → GainsBoth a b p q → (x : Path) → KeepsPath a b p x ⊎ KeepsPath a b q x
gains-paths a b p q g x = by (g.first.paths x) (g.second.paths x)
  where
    by : KeepsPath a g.mid p x → KeepsPath g.mid b q x → KeepsPath a b p x ⊎ KeepsPath a b q x
    by kept (inl e) = inl (path-then a g.mid b p x e kept)
    by (inl e) (inr h) = inr (inr (parent-since a g.mid b q x g.same_first g.first.objects (sym e ∙ h.lacked) h))
    by (inr f) (inr h) = let z : Some (Directory f.number f.attributes false None) ≡ None = sym f.gained ∙ h.lacked in absurd (cc)

-- an object that comes where none was, with nothing below it, leaves what every other path holds
pub beside :
    (t : Tree) (V : Layer) (q : Path) → is_object (held (layer_of t) q) ≡ false →
    ((n : Name) (r : Path) → held V (n ∷ r ++ q) ≡ None) → (x : Path) →
    (IsOutside q x → held V x ≡ held (layer_of t) x) → x ≢ q → held V x ≡ held (layer_of t) x
beside t V q free beneath x outside off = elim (place q x) [ inl b ↦ by b.0 b.1 | inr out ↦ outside out ]
  where
    by : (r : Path) → x ≡ r ++ q → held V x ≡ held (layer_of t) x
    by [] e = absurd (off e)
    by (n ∷ r) e =
        subst (λ z. held V z ≡ held (layer_of t) z) (sym e)
        (beneath n r ∙ sym (nothing-held t q (free-directory (held (layer_of t) q) free) n r))

-- so does a further name
pub beside-name :
    (t : Tree) (V : Layer) (p q : Path) → is_object (held (layer_of t) q) ≡ false → AddsName (layer_of t) V p q →
    (x : Path) → x ≢ q → held V x ≡ held (layer_of t) x
beside-name t V p q free adds x = beside t V q free adds.beneath x (adds.elsewhere x)

-- and a new inode at two names
pub beside-copy :
    (t : Tree) (V : Layer) (p q : Path) (i : Inode) →
    is_object (held (layer_of t) p) ≡ false → is_object (held (layer_of t) q) ≡ false →
    CopiesName (layer_of t) V p q i → (x : Path) → x ≢ p → x ≢ q → held V x ≡ held (layer_of t) x
beside-copy t V p q i from onto copy x off =
    beside t V q onto copy.further.beneath x
    (λ out. copy.further.elsewhere x out ∙ beside t copy.copied p from copy.leaf.beneath x (copy.leaf.elsewhere x) off)
