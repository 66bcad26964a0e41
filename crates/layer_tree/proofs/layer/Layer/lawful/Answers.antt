use Rattle.std.proofs.Common.{subst}
use Rattle.layer_tree.specs.Tree.{IsTree}
use Rattle.layer_tree.proofs.Held.{held_together}
use Rattle.layer_tree.proofs.Freeing.{unlinked_unnamed}
use Rattle.layer_tree.proofs.layer.Layer.lawful.Goals as goal

pub returns-clause-tree : goal.returns-clause-tree
returns-clause-tree c = subst IsTree c.self.view_is c.self.invariant

pub returns-clause-together : goal.returns-clause-together
returns-clause-together c = held_together c.args.self.now (subst IsTree c.self.view_is c.self.invariant)

pub returns-clause-unnamed : goal.returns-clause-unnamed
returns-clause-unnamed c = unlinked_unnamed c.args.self.now (subst IsTree c.self.view_is c.self.invariant)
