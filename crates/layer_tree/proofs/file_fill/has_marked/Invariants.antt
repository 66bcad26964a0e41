use Rattle.std.proofs.Common.{◌≡◌, ℕ, true, Some, Contains}
use Rattle.slab.specs.Slab.{get}
use Rattle.layer_tree.specs.Change.{is_marked_node}
use Rattle.layer_tree.specs.declared.node.Node.{Node}
use Rattle.layer_tree.proofs.file_fill.has_marked.Given as goal

-- a marked node is among those that are left, and those that are left stand under their keys
abbrev pub invariant-loop-node : goal.invariant-loop-node
invariant-loop-node l =
    (goal.iterator-loop-node).can_next l.node-iterator ×
    (goal.iterator-loop-node).is_finite l.node-iterator ×
    ((key : ℕ) (n : Node) → get l.nodes key ≡ Some n → is_marked_node n ≡ true → Contains l.node-iterator (key, n)) ×
    ((key : ℕ) (n : Node) → Contains l.node-iterator (key, n) → get l.nodes key ≡ Some n)
