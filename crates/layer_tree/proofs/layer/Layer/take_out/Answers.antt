use Rattle.std.proofs.Common.{◌≡◌, ap, ◌∙◌, subst, None, refl}
use Rattle.std.specs.FinMap as map
use Rattle.layer_tree.specs.Change.{Retables}
use Rattle.layer_tree.specs.Tree.{Tree, IsTree, entry}
use Rattle.layer_tree.proofs.Binding.{taken, IsTree-taken, taken_clears, counted_retabled}
use Rattle.layer_tree.proofs.Keeping.{IsLayer-unbinds}
use Rattle.layer_tree.proofs.Freeing.{directory_unnamed}
use Rattle.layer_tree.proofs.layer.Layer.take_out.Goals as goal

pub unlink-requires : goal.unlink-requires
unlink-requires c =
    counted_retabled c.self.inside.nodes c.unbind_name-entry.new.nodes c.args.dir c.args.name.now (λ m. map.remove m c.args.name.now) 0 c.unbind_name-entry.ensures.retables c.self.invariant c.unbind_name-entry.result c.unbind_name-entry.ensures.value

pub invariant_of-self : goal.invariant_of-self
invariant_of-self c =
    let tree : IsTree c.args.self.now = subst IsTree c.self.view_is c.self.invariant in
    let r : Retables c.args.self.now c.unbind_name-entry.new.nodes c.args.dir (λ m. map.remove m c.args.name.now) 0 = subst (λ (s : Tree). Retables s c.unbind_name-entry.new.nodes c.args.dir (λ m. map.remove m c.args.name.now) 0) c.self.view_is c.unbind_name-entry.ensures.retables in
    let value : c.unbind_name-entry.result ≡ entry c.args.self.now c.args.dir c.args.name.now = c.unbind_name-entry.ensures.value ∙ ap (λ (s : Tree). entry s c.args.dir c.args.name.now) c.self.view_is in
    IsTree-taken c.args.self.now c.unbind_name-entry.new.nodes c.unlink.new.nodes c.args.dir c.args.name.now c.unbind_name-entry.result tree c.requires value c.unlink.ensures.unlinks r

pub returns-clause-clears : goal.returns-clause-clears
returns-clause-clears c =
    let tree : IsTree c.args.self.now = subst IsTree c.self.view_is c.self.invariant in
    let r : Retables c.args.self.now c.unbind_name-entry.new.nodes c.args.dir (λ m. map.remove m c.args.name.now) 0 = subst (λ (s : Tree). Retables s c.unbind_name-entry.new.nodes c.args.dir (λ m. map.remove m c.args.name.now) 0) c.self.view_is c.unbind_name-entry.ensures.retables in
    let value : c.unbind_name-entry.result ≡ entry c.args.self.now c.args.dir c.args.name.now = c.unbind_name-entry.ensures.value ∙ ap (λ (s : Tree). entry s c.args.dir c.args.name.now) c.self.view_is in
    taken_clears c.args.self.now c.unbind_name-entry.new.nodes c.unlink.new.nodes c.args.dir c.args.name.now c.unbind_name-entry.result tree c.requires value c.unlink.ensures.unlinks r

pub returns-clause-unbinds : goal.returns-clause-unbinds
returns-clause-unbinds c =
    let tree : IsTree c.args.self.now = subst IsTree c.self.view_is c.self.invariant in
    let r : Retables c.args.self.now c.unbind_name-entry.new.nodes c.args.dir (λ m. map.remove m c.args.name.now) 0 = subst (λ (s : Tree). Retables s c.unbind_name-entry.new.nodes c.args.dir (λ m. map.remove m c.args.name.now) 0) c.self.view_is c.unbind_name-entry.ensures.retables in
    let value : c.unbind_name-entry.result ≡ entry c.args.self.now c.args.dir c.args.name.now = c.unbind_name-entry.ensures.value ∙ ap (λ (s : Tree). entry s c.args.dir c.args.name.now) c.self.view_is in
    taken c.args.self.now c.unbind_name-entry.new.nodes c.unlink.new.nodes c.args.dir c.args.name.now c.unbind_name-entry.result tree c.requires value c.unlink.ensures.unlinks r

pub returns-clause-unnamed : goal.returns-clause-unnamed
returns-clause-unnamed c =
    let tree : IsTree c.args.self.now = subst IsTree c.self.view_is c.self.invariant in
    let r : Retables c.args.self.now c.unbind_name-entry.new.nodes c.args.dir (λ m. map.remove m c.args.name.now) 0 = subst (λ (s : Tree). Retables s c.unbind_name-entry.new.nodes c.args.dir (λ m. map.remove m c.args.name.now) 0) c.self.view_is c.unbind_name-entry.ensures.retables in
    let value : c.unbind_name-entry.result ≡ entry c.args.self.now c.args.dir c.args.name.now = c.unbind_name-entry.ensures.value ∙ ap (λ (s : Tree). entry s c.args.dir c.args.name.now) c.self.view_is in
    directory_unnamed c.args.self.now c.unlink.new.nodes c.args.dir c.args.name.now None tree (taken c.args.self.now c.unbind_name-entry.new.nodes c.unlink.new.nodes c.args.dir c.args.name.now c.unbind_name-entry.result tree c.requires value c.unlink.ensures.unlinks r) refl

pub returns-clause-keeps : goal.returns-clause-keeps
returns-clause-keeps c path at bare =
    let tree : IsTree c.args.self.now = subst IsTree c.self.view_is c.self.invariant in
    let r : Retables c.args.self.now c.unbind_name-entry.new.nodes c.args.dir (λ m. map.remove m c.args.name.now) 0 = subst (λ (s : Tree). Retables s c.unbind_name-entry.new.nodes c.args.dir (λ m. map.remove m c.args.name.now) 0) c.self.view_is c.unbind_name-entry.ensures.retables in
    let value : c.unbind_name-entry.result ≡ entry c.args.self.now c.args.dir c.args.name.now = c.unbind_name-entry.ensures.value ∙ ap (λ (s : Tree). entry s c.args.dir c.args.name.now) c.self.view_is in
    IsLayer-unbinds c.args.self.now c.unlink.new.nodes c.args.dir c.args.name.now None (taken c.args.self.now c.unbind_name-entry.new.nodes c.unlink.new.nodes c.args.dir c.args.name.now c.unbind_name-entry.result tree c.requires value c.unlink.ensures.unlinks r) path at bare None (λ k e. cc) (taken_clears c.args.self.now c.unbind_name-entry.new.nodes c.unlink.new.nodes c.args.dir c.args.name.now c.unbind_name-entry.result tree c.requires value c.unlink.ensures.unlinks r path at) (IsTree-taken c.args.self.now c.unbind_name-entry.new.nodes c.unlink.new.nodes c.args.dir c.args.name.now c.unbind_name-entry.result tree c.requires value c.unlink.ensures.unlinks r)
