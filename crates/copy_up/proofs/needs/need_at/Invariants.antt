use Rattle.std.proofs.Common.{◌≡◌, ◌<◌, ◌+◌, ℕ, Some, true, take, reverse}
use Rattle.plain_model.specs.Layers.{held, holds_directory}
use Rattle.layer_tree.specs.Tree.{layer_of, key_at}
use Rattle.copy_up.proofs.needs.need_at.Given as goal

abbrev pub invariant-loop-index : goal.invariant-loop-index
invariant-loop-index l = record {
  key : key_at l.layers.upper (reverse (take l.index l.parents)) ≡ Some l.dir;
  held : (k : ℕ) → k < l.index + 1 → holds_directory (held (layer_of l.layers.upper) (reverse (take k l.parents))) ≡ true;
}
