use Rattle.std.proofs.Common.{◌≡◌, ℕ, ◌<◌, get_or}
use Rattle.layer_tree.specs.Tree.{HasMark, Tree, layer_of}
use Rattle.overlay_core.proofs.mount_faults.is_marked_below.Given as goal

-- no layer so far has a mark
abbrev pub invariant-loop-layer : goal.invariant-loop-layer
invariant-loop-layer l = (k : ℕ) → k < l.layer-index → (t : Tree) → get_or l.lowers k t ≡ t → HasMark (layer_of t) → ⊥
