-- Which path the mark of a file holds, whose bytes stay in the lower layers (overlayfs.rst, "Metadata only copy up").
use Rattle.std.specs.Prelude.{◌≡◌, ◌⊎◌, ℕ, Option, Some, option_map}
use Rattle.std.specs.Option.{option_and_then}
use Rattle.plain_model.specs.Layers.{Path, Inode, Layer, below}
use Rattle.layer_tree.specs.Tree.{layer_of}
use Rattle.merged_lookup.specs.declared.layers.Layers.{Layers}

-- the mark of the inode of this number
abbrev pub mark_in : Layer → ℕ → Option Path
mark_in L k = option_and_then (λ (i : Inode). i.mark) (L.inodes k)

-- each mark in the layer V is one that its inode had in U, or this one
abbrev pub GainsMark : Layer → Layer → Option Path → Type 0
GainsMark U V mark =
    (k : ℕ) (q : Path) → mark_in V k ≡ Some q → (mark_in U k ≡ Some q) ⊎ (mark ≡ Some q)

-- EACH MARK OF THE UPPER IS ONE THAT ITS INODE HAD, or the spelling that this path, where there is
-- one, had for the layers below before the change.
abbrev pub KeepsTexts : Layers → Layers → Option Path → Type 0
KeepsTexts old new path =
    GainsMark (layer_of old.upper) (layer_of new.upper)
    (option_map (below (layer_of old.upper)) path)
