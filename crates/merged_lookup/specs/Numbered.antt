-- Layers by their numbers.
use Rattle.std.specs.Prelude.{List, ◌∷◌}
use Rattle.layer_tree.specs.Tree.{Tree}
use Rattle.merged_lookup.specs.declared.numbered.Numbered.{Numbered}

-- the layers in their order
abbrev pub row : Numbered → List Tree
row n = n.upper.now ∷ n.lowers.now
