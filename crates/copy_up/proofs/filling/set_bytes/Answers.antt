use Rattle.std.proofs.Common.{subst}
use Rattle.plain_model.specs.Layers.{IsLayer}
use Rattle.layer_tree.specs.Tree.{Tree, layer_of}
use Rattle.copy_up.proofs.filling.set_bytes.Goals as goal

pub returns-clause-keeps : goal.returns-clause-keeps
returns-clause-keeps c = subst (λ (u : Tree). IsLayer (layer_of u) → IsLayer (layer_of c.fill.new.self)) c.upper_mut.ensures.value c.fill.ensures.keeps
