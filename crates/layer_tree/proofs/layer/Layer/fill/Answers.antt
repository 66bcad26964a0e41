use Rattle.std.proofs.Common.{subst}
use Rattle.layer_tree.specs.Tree.{IsTree}
use Rattle.layer_tree.proofs.Writing.{filled}
use Rattle.layer_tree.proofs.layer.Layer.fill.Goals as goal

pub invariant_of-self : goal.invariant_of-self
invariant_of-self c =
    (filled _ _ c.self.view_is c.args.key _ _ c.index_mut-node.ensures.value c.args.bytes c.fill_in.ensures c.requires).tree
    (subst IsTree c.self.view_is c.self.invariant)

pub returns-clause-sets : goal.returns-clause-sets
returns-clause-sets c = (filled _ _ c.self.view_is c.args.key _ _ c.index_mut-node.ensures.value c.args.bytes c.fill_in.ensures c.requires).sets

pub returns-clause-objects_held : goal.returns-clause-objects_held
returns-clause-objects_held c = (filled _ _ c.self.view_is c.args.key _ _ c.index_mut-node.ensures.value c.args.bytes c.fill_in.ensures c.requires).sets.objects

pub returns-clause-keeps : goal.returns-clause-keeps
returns-clause-keeps c = (filled _ _ c.self.view_is c.args.key _ _ c.index_mut-node.ensures.value c.args.bytes c.fill_in.ensures c.requires).layer

pub returns-clause-nameless : goal.returns-clause-nameless
returns-clause-nameless c = (filled _ _ c.self.view_is c.args.key _ _ c.index_mut-node.ensures.value c.args.bytes c.fill_in.ensures c.requires).nameless
