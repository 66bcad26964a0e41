-- How a layer that is gone through name by name spells a path for the next one.
use Rattle.std.specs.Prelude.{◌≡◌, ◌++◌, map, reverse}
use Rattle.plain_model.specs.Layers.{Name, Path, held, below}
use Rattle.layer_tree.specs.Tree.{Tree, layer_of}
use Rattle.merged_lookup.specs.declared.below.Way.{Way}
use Rattle.merged_lookup.specs.Passing.{directory_key}

-- the spelling of the names so far
abbrev pub respelled : Way → Path
respelled w = reverse (w.redirect.now ++ map {B = Name} (λ b. b.now) w.after.items)

-- the layer is gone through as far as the path
pub record IsAt (t : Tree) (p : Path) (w : Way) : Type 0 where
  pub dir : w.dir ≡ directory_key (held (layer_of t) p)
  pub spelling : respelled w ≡ below (layer_of t) p
