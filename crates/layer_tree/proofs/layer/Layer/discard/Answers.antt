use Rattle.std.proofs.Common.{None, subst}
use Rattle.slab.specs.Slab.{Updates}
use Rattle.layer_tree.specs.Tree.{Tree, IsTree}
use Rattle.layer_tree.proofs.Freeing.{frees, same_children, same_keys, SameObjects-freed, IsTree-freed, IsLayer-freed}
use Rattle.layer_tree.proofs.Nameless.{nameless_freed}
use Rattle.layer_tree.proofs.layer.Layer.discard.Goals as goal

pub invariant_of-self : goal.invariant_of-self
invariant_of-self c =
    let updates : Updates c.args.self.now c.try_remove.new.self c.args.key None = subst (λ (s : Tree). Updates s c.try_remove.new.self c.args.key None) c.self.view_is c.try_remove.ensures.updates in
    IsTree-freed c.args.self.now c.try_remove.new.self c.args.key updates c.requires.not_root c.requires.unnamed c.requires.bare (subst IsTree c.self.view_is c.self.invariant)

pub returns-clause-keys : goal.returns-clause-keys
returns-clause-keys c =
    let updates : Updates c.args.self.now c.try_remove.new.self c.args.key None = subst (λ (s : Tree). Updates s c.try_remove.new.self c.args.key None) c.self.view_is c.try_remove.ensures.updates in
    same_keys c.args.self.now c.try_remove.new.self c.args.key updates c.requires.not_root c.requires.unnamed c.requires.bare

pub returns-clause-objects_held : goal.returns-clause-objects_held
returns-clause-objects_held c =
    let updates : Updates c.args.self.now c.try_remove.new.self c.args.key None = subst (λ (s : Tree). Updates s c.try_remove.new.self c.args.key None) c.self.view_is c.try_remove.ensures.updates in
    SameObjects-freed c.args.self.now c.try_remove.new.self c.args.key updates c.requires.not_root c.requires.unnamed c.requires.bare

pub returns-clause-keeps : goal.returns-clause-keeps
returns-clause-keeps c =
    let updates : Updates c.args.self.now c.try_remove.new.self c.args.key None = subst (λ (s : Tree). Updates s c.try_remove.new.self c.args.key None) c.self.view_is c.try_remove.ensures.updates in
    IsLayer-freed c.args.self.now c.try_remove.new.self c.args.key updates c.requires.not_root c.requires.unnamed c.requires.bare (subst IsTree c.self.view_is c.self.invariant)

pub returns-clause-nameless : goal.returns-clause-nameless
returns-clause-nameless c =
    let updates : Updates c.args.self.now c.try_remove.new.self c.args.key None = subst (λ (s : Tree). Updates s c.try_remove.new.self c.args.key None) c.self.view_is c.try_remove.ensures.updates in
    nameless_freed c.args.self.now c.try_remove.new.self c.args.key
    (frees c.args.self.now c.try_remove.new.self c.args.key updates c.requires.not_root c.requires.unnamed c.requires.bare)
    (same_children c.args.self.now c.try_remove.new.self c.args.key updates c.requires.not_root c.requires.unnamed c.requires.bare)
