use Rattle.std.proofs.Common.{◌≡◌, Some, sym, ap, subst, ◌∙◌}
use Rattle.slab.specs.Slab.{with_value}
use Rattle.plain_model.specs.Layers.{IsLayer}
use Rattle.layer_tree.specs.Tree.{Tree, IsTree, key_at, layer_of, IsDirectory}
use Rattle.layer_tree.specs.Nameless.{IsNameless}
use Rattle.layer_tree.specs.MarkChange.{with_marks, SetsMarks, MarksDirectory}
use Rattle.layer_tree.specs.declared.node.Node.{Node}
use Rattle.layer_tree.proofs.Marking.{sets_marks, nameless_marked, marks_directory, IsTree-marked, IsLayer-marked}
use Rattle.layer_tree.proofs.layer.Layer.set_marks.Goals as goal

pub invariant_of-self : goal.invariant_of-self
invariant_of-self c =
    subst (λ (n : Node). IsTree (with_value c.self.inside.nodes c.args.key n)) (sym c.set_marks_in.ensures)
    (IsTree-marked c.self.inside.nodes c.args.key c.index_mut-node.result.now c.index_mut-node.ensures.value c.args.marks c.requires.not_root c.requires.redirect c.self.invariant)

pub returns-clause-sets : goal.returns-clause-sets
returns-clause-sets c =
    subst (λ (n : Node). SetsMarks c.args.self.now (with_value c.self.inside.nodes c.args.key n) c.args.key c.args.marks) (sym c.set_marks_in.ensures)
    (subst (λ (s : Tree). SetsMarks s (with_value c.self.inside.nodes c.args.key (with_marks c.args.marks c.index_mut-node.result.now)) c.args.key c.args.marks) c.self.view_is
    (sets_marks c.self.inside.nodes c.args.key c.index_mut-node.result.now c.index_mut-node.ensures.value c.args.marks))

pub returns-clause-directory : goal.returns-clause-directory
returns-clause-directory c path at =
    let reached : key_at c.self.inside.nodes path ≡ Some c.args.key = ap (λ (s : Tree). key_at s path) c.self.view_is ∙ at in
    let is_dir : IsDirectory c.self.inside.nodes c.args.key = subst (λ (s : Tree). IsDirectory s c.args.key) (sym c.self.view_is) c.requires.is_dir in
    subst (λ (n : Node). MarksDirectory (layer_of c.args.self.now) (layer_of (with_value c.self.inside.nodes c.args.key n)) path c.args.key c.args.marks.opaque c.args.marks.redirect) (sym c.set_marks_in.ensures)
    (subst (λ (s : Tree). MarksDirectory (layer_of s) (layer_of (with_value c.self.inside.nodes c.args.key (with_marks c.args.marks c.index_mut-node.result.now))) path c.args.key c.args.marks.opaque c.args.marks.redirect) c.self.view_is
    (marks_directory c.self.inside.nodes c.args.key c.index_mut-node.result.now c.index_mut-node.ensures.value c.args.marks c.requires.not_root c.requires.redirect c.self.invariant path reached is_dir))

pub returns-clause-keeps : goal.returns-clause-keeps
returns-clause-keeps c layer =
    let inside : IsLayer (layer_of c.self.inside.nodes) = subst (λ (s : Tree). IsLayer (layer_of s)) (sym c.self.view_is) layer in
    subst (λ (n : Node). IsLayer (layer_of (with_value c.self.inside.nodes c.args.key n))) (sym c.set_marks_in.ensures)
    (IsLayer-marked c.self.inside.nodes c.args.key c.index_mut-node.result.now c.index_mut-node.ensures.value c.args.marks c.requires.not_root c.requires.redirect c.self.invariant inside)

pub returns-clause-nameless : goal.returns-clause-nameless
returns-clause-nameless c k nameless =
    let inside : IsNameless c.self.inside.nodes k = subst (λ (s : Tree). IsNameless s k) (sym c.self.view_is) nameless in
    subst (λ (n : Node). IsNameless (with_value c.self.inside.nodes c.args.key n) k) (sym c.set_marks_in.ensures)
    (nameless_marked c.self.inside.nodes c.args.key c.index_mut-node.result.now c.index_mut-node.ensures.value c.args.marks k inside)
