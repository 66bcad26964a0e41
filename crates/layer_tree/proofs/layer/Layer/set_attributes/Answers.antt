use Rattle.std.proofs.Common.{sym, ap, subst, ◌∙◌}
use Rattle.slab.specs.Slab.{with_value}
use Rattle.plain_model.specs.Layers.{IsLayer}
use Rattle.layer_tree.specs.Tree.{Tree, IsTree, key_at, inode_at, layer_of, IsDirectory}
use Rattle.layer_tree.specs.Nameless.{IsNameless}
use Rattle.layer_tree.specs.AttributeChange.{SetsAttributes, SetsInode, SetsDirectory}
use Rattle.layer_tree.specs.declared.node.Node.{Node}
use Rattle.layer_tree.proofs.AttributeChanges.{sets_attributes, nameless_attributes, sets_inode, sets_directory, IsTree-attributes, IsLayer-attributes}
use Rattle.layer_tree.proofs.layer.Layer.set_attributes.Goals as goal

pub invariant_of-self : goal.invariant_of-self
invariant_of-self c =
    subst (λ (n : Node). IsTree (with_value c.self.inside.nodes c.args.key n)) (sym c.set_attributes_in.ensures)
    (IsTree-attributes c.self.inside.nodes c.args.key c.index_mut-node.result.now c.index_mut-node.ensures.value c.args.attributes c.self.invariant)

pub returns-clause-sets : goal.returns-clause-sets
returns-clause-sets c =
    let whole : SetsAttributes c.self.inside.nodes (with_value c.self.inside.nodes c.args.key c.set_attributes_in.new.node) c.args.key c.args.attributes =
    subst (λ (n : Node). SetsAttributes c.self.inside.nodes (with_value c.self.inside.nodes c.args.key n) c.args.key c.args.attributes) (sym c.set_attributes_in.ensures)
    (sets_attributes c.self.inside.nodes c.args.key c.index_mut-node.result.now c.index_mut-node.ensures.value c.args.attributes) in
    subst (λ (s : Tree). SetsAttributes s (with_value c.self.inside.nodes c.args.key c.set_attributes_in.new.node) c.args.key c.args.attributes) c.self.view_is whole

pub returns-clause-inode : goal.returns-clause-inode
returns-clause-inode c i is =
    let whole : SetsInode (layer_of c.self.inside.nodes) (layer_of (with_value c.self.inside.nodes c.args.key c.set_attributes_in.new.node)) c.args.key c.args.attributes =
    subst (λ (n : Node). SetsInode (layer_of c.self.inside.nodes) (layer_of (with_value c.self.inside.nodes c.args.key n)) c.args.key c.args.attributes) (sym c.set_attributes_in.ensures)
    (sets_inode c.self.inside.nodes c.args.key c.index_mut-node.result.now c.index_mut-node.ensures.value c.args.attributes i (ap (λ (s : Tree). inode_at s c.args.key) c.self.view_is ∙ is)) in
    subst (λ (s : Tree). SetsInode (layer_of s) (layer_of (with_value c.self.inside.nodes c.args.key c.set_attributes_in.new.node)) c.args.key c.args.attributes) c.self.view_is whole

pub returns-clause-directory : goal.returns-clause-directory
returns-clause-directory c path at is =
    let whole : SetsDirectory (layer_of c.self.inside.nodes) (layer_of (with_value c.self.inside.nodes c.args.key c.set_attributes_in.new.node)) path c.args.key c.args.attributes =
    subst (λ (n : Node). SetsDirectory (layer_of c.self.inside.nodes) (layer_of (with_value c.self.inside.nodes c.args.key n)) path c.args.key c.args.attributes) (sym c.set_attributes_in.ensures)
    (sets_directory c.self.inside.nodes c.args.key c.index_mut-node.result.now c.index_mut-node.ensures.value c.args.attributes c.self.invariant path (ap (λ (s : Tree). key_at s path) c.self.view_is ∙ at) (subst (λ (s : Tree). IsDirectory s c.args.key) (sym c.self.view_is) is)) in
    subst (λ (s : Tree). SetsDirectory (layer_of s) (layer_of (with_value c.self.inside.nodes c.args.key c.set_attributes_in.new.node)) path c.args.key c.args.attributes) c.self.view_is whole

pub returns-clause-keeps : goal.returns-clause-keeps
returns-clause-keeps c layer =
    let inside : IsLayer (layer_of c.self.inside.nodes) = subst (λ (s : Tree). IsLayer (layer_of s)) (sym c.self.view_is) layer in
    subst (λ (n : Node). IsLayer (layer_of (with_value c.self.inside.nodes c.args.key n))) (sym c.set_attributes_in.ensures)
    (IsLayer-attributes c.self.inside.nodes c.args.key c.index_mut-node.result.now c.index_mut-node.ensures.value c.args.attributes c.self.invariant inside)

pub returns-clause-nameless : goal.returns-clause-nameless
returns-clause-nameless c k nameless =
    let inside : IsNameless c.self.inside.nodes k = subst (λ (s : Tree). IsNameless s k) (sym c.self.view_is) nameless in
    subst (λ (n : Node). IsNameless (with_value c.self.inside.nodes c.args.key n) k) (sym c.set_attributes_in.ensures)
    (nameless_attributes c.self.inside.nodes c.args.key c.index_mut-node.result.now c.index_mut-node.ensures.value c.args.attributes k inside)
