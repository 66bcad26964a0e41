-- No file of a layer bears a mark, as its entries come.
use Rattle.std.proofs.Common.{◌≡◌, inl, inr, ℕ, List, [], ◌∷◌, ◌++◌, Option, Some, None, is_some, map, option_map, All, refl, sym, ap, subst, ◌∙◌}
use Rattle.std.specs.Option.{option_and_then}
use Rattle.std.proofs.lemmas.Bool.{cases_eq}
use Rattle.std.proofs.lemmas.List.{map_push}
use Rattle.std.proofs.lemmas.List.Elements.{All-push}
use Rattle.plain_model.specs.Layers.{Inode, Name}
use Rattle.layer_tree.specs.Tree.{Tree, inode_at, layer_of}
use Rattle.layer_tree.specs.Link.{Links, with_more}
use Rattle.ov_wire.specs.ManifestLayers.{HasNoMark}

-- a tree without inodes has none
pub unmarked-new : (t : Tree) → ((key : ℕ) → inode_at t key ≡ None) → HasNoMark (layer_of t)
unmarked-new t none h = let no = none h.0 in let there = h.2 in cc

-- a further name makes none
pub unmarked-linked : (old new : Tree) (dir : ℕ) (name : Name) (key : ℕ) → Links old new dir name key → HasNoMark (layer_of old) → HasNoMark (layer_of new)
unmarked-linked old new dir name key l none h = elim (cases_eq h.0 key) [
  | inl same ↦ of (inode_at old key) refl (sym l.linked ∙ ap (inode_at new) (sym same) ∙ h.2)
  | inr off ↦ none (h.0, h.1, sym (l.inodes h.0 off) ∙ h.2, h.3)
]
  where
    of : (o : Option Inode) → inode_at old key ≡ o → option_map with_more o ≡ Some h.1 → ⊥
    of None is e = cc
    of (Some x) is e = none (key, x, is, ap (λ o. is_some (option_and_then (λ (i : Inode). i.mark) o)) e ∙ h.3)

-- one more layer without any
pub unmarked-on : (old new : List Tree) (t : Tree) → new ≡ old ++ t ∷ [] → All HasNoMark (map layer_of old) → HasNoMark (layer_of t) → All HasNoMark (map layer_of new)
unmarked-on old new t grown all one = subst (All HasNoMark) (sym (ap (map layer_of) grown ∙ map_push layer_of old t)) (All-push HasNoMark (map layer_of old) (layer_of t) all one)
