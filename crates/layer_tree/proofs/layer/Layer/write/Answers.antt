use Rattle.std.proofs.Common.{ℕ, List, Some, ◌≡◌, subst, is_ok, if◌then◌else◌}
use Rattle.slab.specs.Slab.{with_value}
use Rattle.layer_tree.specs.Tree.{IsTree, own_at, layer_of, written}
use Rattle.layer_tree.specs.ContentChange.{SetsBytes}
use Rattle.layer_tree.proofs.Writing.{some_of, rewritten, if_ok}
use Rattle.layer_tree.proofs.layer.Layer.write.Goals as goal

pub invariant_of-self : goal.invariant_of-self
invariant_of-self c =
    let old = some_of (own_at c.args.self.now c.args.key) c.requires.file in
    (rewritten _ _ c.self.view_is c.args.key _ _ c.index_mut-node.ensures.value (λ l. if is_ok c.write_in.result then written l c.args.start c.args.bytes.now else l) c.write_in.ensures.wrote old.0 old.1).tree (subst IsTree c.self.view_is c.self.invariant)

pub returns-clause-writes : goal.returns-clause-writes
returns-clause-writes c old is = (rewritten _ _ c.self.view_is c.args.key _ _ c.index_mut-node.ensures.value (λ l. if is_ok c.write_in.result then written l c.args.start c.args.bytes.now else l) c.write_in.ensures.wrote old is).writes

pub returns-clause-sets : goal.returns-clause-sets
returns-clause-sets c =
    if_ok (λ l. written l c.args.start c.args.bytes.now) (λ change. (old : List ℕ) → own_at c.args.self.now c.args.key ≡ Some old → SetsBytes (layer_of c.args.self.now) (layer_of (with_value c.self.inside.nodes c.args.key c.write_in.new.node)) c.args.key (change old)) c.write_in.result
    (λ old is. (rewritten _ _ c.self.view_is c.args.key _ _ c.index_mut-node.ensures.value (λ l. if is_ok c.write_in.result then written l c.args.start c.args.bytes.now else l) c.write_in.ensures.wrote old is).sets)

pub returns-clause-objects_held : goal.returns-clause-objects_held
returns-clause-objects_held c =
    let old = some_of (own_at c.args.self.now c.args.key) c.requires.file in
    (rewritten _ _ c.self.view_is c.args.key _ _ c.index_mut-node.ensures.value (λ l. if is_ok c.write_in.result then written l c.args.start c.args.bytes.now else l) c.write_in.ensures.wrote old.0 old.1).sets.objects

pub returns-clause-names : goal.returns-clause-names
returns-clause-names c =
    let old = some_of (own_at c.args.self.now c.args.key) c.requires.file in
    (rewritten _ _ c.self.view_is c.args.key _ _ c.index_mut-node.ensures.value (λ l. if is_ok c.write_in.result then written l c.args.start c.args.bytes.now else l) c.write_in.ensures.wrote old.0 old.1).room

pub returns-clause-keeps : goal.returns-clause-keeps
returns-clause-keeps c =
    let old = some_of (own_at c.args.self.now c.args.key) c.requires.file in
    (rewritten _ _ c.self.view_is c.args.key _ _ c.index_mut-node.ensures.value (λ l. if is_ok c.write_in.result then written l c.args.start c.args.bytes.now else l) c.write_in.ensures.wrote old.0 old.1).layer

pub returns-clause-nameless : goal.returns-clause-nameless
returns-clause-nameless c =
    let old = some_of (own_at c.args.self.now c.args.key) c.requires.file in
    (rewritten _ _ c.self.view_is c.args.key _ _ c.index_mut-node.ensures.value (λ l. if is_ok c.write_in.result then written l c.args.start c.args.bytes.now else l) c.write_in.ensures.wrote old.0 old.1).nameless
