-- Which objects bear a mark that leads to no file.
use Rattle.std.specs.Prelude.{Bool, false, not, List, Option, None, Some}
use Rattle.std.specs.Option.{option_and_then}
use Rattle.plain_model.specs.Layers as layers
use Rattle.plain_model.specs.Layers.{Layer, Path, shows}
use Rattle.layer_tree.specs.Tree.{inode_of}
use Rattle.layer_tree.specs.declared.node.Node.{Node}
use Rattle.overlay_core.specs.Mounting.{shows_file}

-- the lower layers show no file at a mark, which there is
abbrev pub astray : List Layer → Option Path → Bool
astray lowers None = false
astray lowers (Some q) = not (shows_file (shows 1 lowers q))

-- an object is a file with such a mark
abbrev pub goes_astray : List Layer → Node → Bool
goes_astray lowers n = astray lowers (option_and_then (λ (i : layers.Inode). i.mark) (inode_of n))
