use Rattle.std.proofs.Common.{refl, ◌∙◌}
use Rattle.layer_tree.proofs.Roots.{IsTree-root, nothing_held, no_inode}
use Rattle.layer_tree.proofs.Layers.{IsLayer-root}
use Rattle.layer_tree.specs.Tree.{layer_of}
use Rattle.layer_tree.proofs.layer.Layer.new.Goals as goal

pub invariant_of-result : goal.invariant_of-result
invariant_of-result c = IsTree-root _ c.insert_reserved.new.self _ c.insert_reserved.result c.in_ok-nodes.ensures.empty (c.insert_reserved.ensures.key ∙ c.in_ok-nodes.ensures.first_key) c.insert_reserved.ensures.updates c.new.ensures (refl, refl)

pub returns-clause-nothing_else : goal.returns-clause-nothing_else
returns-clause-nothing_else c = nothing_held _ c.insert_reserved.new.self _ c.insert_reserved.result c.in_ok-nodes.ensures.empty (c.insert_reserved.ensures.key ∙ c.in_ok-nodes.ensures.first_key) c.insert_reserved.ensures.updates c.new.ensures

pub returns-clause-layer : goal.returns-clause-layer
returns-clause-layer c = IsLayer-root (layer_of c.insert_reserved.new.self) (nothing_held _ c.insert_reserved.new.self _ c.insert_reserved.result c.in_ok-nodes.ensures.empty (c.insert_reserved.ensures.key ∙ c.in_ok-nodes.ensures.first_key) c.insert_reserved.ensures.updates c.new.ensures) (no_inode _ c.insert_reserved.new.self _ c.insert_reserved.result c.in_ok-nodes.ensures.empty (c.insert_reserved.ensures.key ∙ c.in_ok-nodes.ensures.first_key) c.insert_reserved.ensures.updates c.new.ensures)
