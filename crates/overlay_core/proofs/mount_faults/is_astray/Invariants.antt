use Rattle.std.proofs.Common.{◌≡◌, ℕ, true, Some, Contains, map}
use Rattle.slab.specs.Slab.{get}
use Rattle.layer_tree.specs.Tree.{layer_of}
use Rattle.layer_tree.specs.declared.node.Node.{Node}
use Rattle.overlay_core.specs.Marks.{goes_astray}
use Rattle.overlay_core.proofs.mount_faults.is_astray.Given as goal

-- an object that goes astray is among those that are left, and those that are left stand under their keys
abbrev pub invariant-loop-node : goal.invariant-loop-node
invariant-loop-node l =
    (goal.iterator-loop-node).can_next l.node-iterator ×
    (goal.iterator-loop-node).is_finite l.node-iterator ×
    ((key : ℕ) (n : Node) → get l.upper key ≡ Some n → goes_astray (map layer_of l.lowers) n ≡ true → Contains l.node-iterator (key, n)) ×
    ((key : ℕ) (n : Node) → Contains l.node-iterator (key, n) → get l.upper key ≡ Some n)
