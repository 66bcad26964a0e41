use Rattle.std.proofs.Common.{sym, ap, subst, ◌∙◌}
use Rattle.slab.specs.Slab.{with_value}
use Rattle.plain_model.specs.Layers.{IsLayer}
use Rattle.ov_base.specs.AttributeChanges.{changed}
use Rattle.layer_tree.specs.Tree.{Tree, IsTree, key_at, inode_at, layer_of, IsDirectory}
use Rattle.layer_tree.specs.Nameless.{IsNameless}
use Rattle.layer_tree.specs.AttributeChange.{attributes_of, attributes_at, SetsAttributes, SetsInode, SetsDirectory}
use Rattle.layer_tree.specs.declared.node.Node.{Node}
use Rattle.layer_tree.proofs.AttributeChanges.{sets_attributes, nameless_attributes, sets_inode, sets_directory, IsTree-attributes, IsLayer-attributes, inode_attributes, changed_node, on_ok}
use Rattle.layer_tree.proofs.layer.Layer.alter.Goals as goal

pub invariant_of-self : goal.invariant_of-self
invariant_of-self c =
    subst (λ (n : Node). IsTree (with_value c.self.inside.nodes c.args.key n)) (sym c.alter_in.ensures.attributes)
    (IsTree-attributes c.self.inside.nodes c.args.key c.index_mut-node.result.now c.index_mut-node.ensures.value (attributes_of c.alter_in.new.node) c.self.invariant)

pub returns-clause-sets : goal.returns-clause-sets
returns-clause-sets c = on_ok c.alter_in.result c.alter_in.ensures.changed (λ done a at.
    let found = c.index_mut-node.ensures.value in
    let same = changed_node c.self.inside.nodes c.args.key c.index_mut-node.result.now c.alter_in.new.node found c.alter_in.ensures.attributes c.args.change done a (ap (λ (s : Tree). attributes_at s c.args.key) c.self.view_is ∙ at) in
    let whole : SetsAttributes c.self.inside.nodes (with_value c.self.inside.nodes c.args.key c.alter_in.new.node) c.args.key (changed c.args.change a) =
    subst (λ (n : Node). SetsAttributes c.self.inside.nodes (with_value c.self.inside.nodes c.args.key n) c.args.key (changed c.args.change a)) (sym same)
    (sets_attributes c.self.inside.nodes c.args.key c.index_mut-node.result.now found (changed c.args.change a)) in
    subst (λ (s : Tree). SetsAttributes s (with_value c.self.inside.nodes c.args.key c.alter_in.new.node) c.args.key (changed c.args.change a)) c.self.view_is whole)

pub returns-clause-inode : goal.returns-clause-inode
returns-clause-inode c = on_ok c.alter_in.result c.alter_in.ensures.changed (λ done i is.
    let found = c.index_mut-node.ensures.value in
    let inside = ap (λ (s : Tree). inode_at s c.args.key) c.self.view_is ∙ is in
    let same = changed_node c.self.inside.nodes c.args.key c.index_mut-node.result.now c.alter_in.new.node found c.alter_in.ensures.attributes c.args.change done i.attributes (inode_attributes c.self.inside.nodes c.args.key i inside) in
    let whole : SetsInode (layer_of c.self.inside.nodes) (layer_of (with_value c.self.inside.nodes c.args.key c.alter_in.new.node)) c.args.key (changed c.args.change i.attributes) =
    subst (λ (n : Node). SetsInode (layer_of c.self.inside.nodes) (layer_of (with_value c.self.inside.nodes c.args.key n)) c.args.key (changed c.args.change i.attributes)) (sym same)
    (sets_inode c.self.inside.nodes c.args.key c.index_mut-node.result.now found (changed c.args.change i.attributes) i inside) in
    subst (λ (s : Tree). SetsInode (layer_of s) (layer_of (with_value c.self.inside.nodes c.args.key c.alter_in.new.node)) c.args.key (changed c.args.change i.attributes)) c.self.view_is whole)

pub returns-clause-directory : goal.returns-clause-directory
returns-clause-directory c = on_ok c.alter_in.result c.alter_in.ensures.changed (λ done path a at leads is.
    let found = c.index_mut-node.ensures.value in
    let same = changed_node c.self.inside.nodes c.args.key c.index_mut-node.result.now c.alter_in.new.node found c.alter_in.ensures.attributes c.args.change done a (ap (λ (s : Tree). attributes_at s c.args.key) c.self.view_is ∙ at) in
    let whole : SetsDirectory (layer_of c.self.inside.nodes) (layer_of (with_value c.self.inside.nodes c.args.key c.alter_in.new.node)) path c.args.key (changed c.args.change a) =
    subst (λ (n : Node). SetsDirectory (layer_of c.self.inside.nodes) (layer_of (with_value c.self.inside.nodes c.args.key n)) path c.args.key (changed c.args.change a)) (sym same)
    (sets_directory c.self.inside.nodes c.args.key c.index_mut-node.result.now found (changed c.args.change a) c.self.invariant path (ap (λ (s : Tree). key_at s path) c.self.view_is ∙ leads) (subst (λ (s : Tree). IsDirectory s c.args.key) (sym c.self.view_is) is)) in
    subst (λ (s : Tree). SetsDirectory (layer_of s) (layer_of (with_value c.self.inside.nodes c.args.key c.alter_in.new.node)) path c.args.key (changed c.args.change a)) c.self.view_is whole)

pub returns-clause-keeps : goal.returns-clause-keeps
returns-clause-keeps c layer =
    let inside : IsLayer (layer_of c.self.inside.nodes) = subst (λ (s : Tree). IsLayer (layer_of s)) (sym c.self.view_is) layer in
    subst (λ (n : Node). IsLayer (layer_of (with_value c.self.inside.nodes c.args.key n))) (sym c.alter_in.ensures.attributes)
    (IsLayer-attributes c.self.inside.nodes c.args.key c.index_mut-node.result.now c.index_mut-node.ensures.value (attributes_of c.alter_in.new.node) c.self.invariant inside)

pub returns-clause-nameless : goal.returns-clause-nameless
returns-clause-nameless c k nameless =
    let inside : IsNameless c.self.inside.nodes k = subst (λ (s : Tree). IsNameless s k) (sym c.self.view_is) nameless in
    subst (λ (n : Node). IsNameless (with_value c.self.inside.nodes c.args.key n) k) (sym c.alter_in.ensures.attributes)
    (nameless_attributes c.self.inside.nodes c.args.key c.index_mut-node.result.now c.index_mut-node.ensures.value (attributes_of c.alter_in.new.node) k inside)
