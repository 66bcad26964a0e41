use Rattle.std.proofs.Common.{◌≡◌, Some, None, sym, ap, ◌∙◌, subst}
use Rattle.slab.specs.Slab.{get, Updates}
use Rattle.layer_tree.specs.Tree.{Tree, IsTree, Inserts}
use Rattle.layer_tree.proofs.Binding.{inserts, IsTree-inserts, inserts_sets}
use Rattle.layer_tree.proofs.Keeping.{IsLayer-inserts}
use Rattle.layer_tree.proofs.layer.Layer.insert_reserved.Goals as goal

pub invariant_of-self : goal.invariant_of-self
invariant_of-self c =
    let tree : IsTree c.args.self.now = subst IsTree c.self.view_is c.self.invariant in
    let vacant : get c.args.self.now c.insert_reserved-key.result ≡ None = ap (λ (s : Tree). get s c.insert_reserved-key.result) (sym c.self.view_is) ∙ c.insert_reserved-key.ensures.was_vacant in
    let updates : Updates c.args.self.now c.insert_reserved-key.new.self c.insert_reserved-key.result (Some c.planted-node.result) = subst (λ (s : Tree). Updates s c.insert_reserved-key.new.self c.insert_reserved-key.result (Some c.planted-node.result)) c.self.view_is c.insert_reserved-key.ensures.updates in
    let ins : Inserts c.args.self.now c.bind_name.new.nodes c.args.dir c.args.name c.args.object c.insert_reserved-key.result = inserts c.args.self.now c.insert_reserved-key.new.self c.bind_name.new.nodes c.args.dir c.insert_reserved-key.result c.args.name c.args.object c.planted-node.result c.requires.is_dir vacant updates c.planted-node.ensures c.bind_name.ensures.retables in
    IsTree-inserts c.args.self.now c.bind_name.new.nodes c.args.dir c.insert_reserved-key.result c.args.name c.args.object tree c.requires.is_dir ins c.requires.redirect c.requires.no_object

pub returns-clause-sets : goal.returns-clause-sets
returns-clause-sets c =
    let tree : IsTree c.args.self.now = subst IsTree c.self.view_is c.self.invariant in
    let vacant : get c.args.self.now c.insert_reserved-key.result ≡ None = ap (λ (s : Tree). get s c.insert_reserved-key.result) (sym c.self.view_is) ∙ c.insert_reserved-key.ensures.was_vacant in
    let updates : Updates c.args.self.now c.insert_reserved-key.new.self c.insert_reserved-key.result (Some c.planted-node.result) = subst (λ (s : Tree). Updates s c.insert_reserved-key.new.self c.insert_reserved-key.result (Some c.planted-node.result)) c.self.view_is c.insert_reserved-key.ensures.updates in
    let ins : Inserts c.args.self.now c.bind_name.new.nodes c.args.dir c.args.name c.args.object c.insert_reserved-key.result = inserts c.args.self.now c.insert_reserved-key.new.self c.bind_name.new.nodes c.args.dir c.insert_reserved-key.result c.args.name c.args.object c.planted-node.result c.requires.is_dir vacant updates c.planted-node.ensures c.bind_name.ensures.retables in
    inserts_sets c.args.self.now c.bind_name.new.nodes c.args.dir c.insert_reserved-key.result c.args.name c.args.object tree c.requires.is_dir ins c.requires.no_object

pub returns-clause-inserts : goal.returns-clause-inserts
returns-clause-inserts c =
    let vacant : get c.args.self.now c.insert_reserved-key.result ≡ None = ap (λ (s : Tree). get s c.insert_reserved-key.result) (sym c.self.view_is) ∙ c.insert_reserved-key.ensures.was_vacant in
    let updates : Updates c.args.self.now c.insert_reserved-key.new.self c.insert_reserved-key.result (Some c.planted-node.result) = subst (λ (s : Tree). Updates s c.insert_reserved-key.new.self c.insert_reserved-key.result (Some c.planted-node.result)) c.self.view_is c.insert_reserved-key.ensures.updates in
    inserts c.args.self.now c.insert_reserved-key.new.self c.bind_name.new.nodes c.args.dir c.insert_reserved-key.result c.args.name c.args.object c.planted-node.result c.requires.is_dir vacant updates c.planted-node.ensures c.bind_name.ensures.retables

pub returns-clause-keeps : goal.returns-clause-keeps
returns-clause-keeps c path at =
    let tree : IsTree c.args.self.now = subst IsTree c.self.view_is c.self.invariant in
    let vacant : get c.args.self.now c.insert_reserved-key.result ≡ None = ap (λ (s : Tree). get s c.insert_reserved-key.result) (sym c.self.view_is) ∙ c.insert_reserved-key.ensures.was_vacant in
    let updates : Updates c.args.self.now c.insert_reserved-key.new.self c.insert_reserved-key.result (Some c.planted-node.result) = subst (λ (s : Tree). Updates s c.insert_reserved-key.new.self c.insert_reserved-key.result (Some c.planted-node.result)) c.self.view_is c.insert_reserved-key.ensures.updates in
    let ins : Inserts c.args.self.now c.bind_name.new.nodes c.args.dir c.args.name c.args.object c.insert_reserved-key.result = inserts c.args.self.now c.insert_reserved-key.new.self c.bind_name.new.nodes c.args.dir c.insert_reserved-key.result c.args.name c.args.object c.planted-node.result c.requires.is_dir vacant updates c.planted-node.ensures c.bind_name.ensures.retables in
    let is_tree : IsTree c.bind_name.new.nodes = IsTree-inserts c.args.self.now c.bind_name.new.nodes c.args.dir c.insert_reserved-key.result c.args.name c.args.object tree c.requires.is_dir ins c.requires.redirect c.requires.no_object in
    IsLayer-inserts c.args.self.now c.bind_name.new.nodes c.args.dir c.args.name c.args.object c.insert_reserved-key.result ins c.requires.no_object path at (inserts_sets c.args.self.now c.bind_name.new.nodes c.args.dir c.insert_reserved-key.result c.args.name c.args.object tree c.requires.is_dir ins c.requires.no_object path at) is_tree
