use Rattle.std.specs.List.{IsDistinct}
use Rattle.layer_tree.proofs.layer.Layer.bound_names.Goals as goal

pub returns-in_default-clause-distinct : goal.returns-in_default-clause-distinct
unfolding IsDistinct
returns-in_default-clause-distinct c = tt
