use Rattle.std.proofs.Common.{◌≡◌, ap, ◌∙◌, subst, Some, refl}
use Rattle.std.specs.FinMap as map
use Rattle.plain_model.specs.Layers as layers
use Rattle.layer_tree.specs.Change.{Retables}
use Rattle.layer_tree.specs.Tree.{Tree, IsTree, entry}
use Rattle.layer_tree.specs.declared.name_table.Entry.TheVariants as to
use Rattle.layer_tree.proofs.Binding.{covered, IsTree-covered, covered_covers, counted_retabled}
use Rattle.layer_tree.proofs.Keeping.{IsLayer-unbinds}
use Rattle.layer_tree.proofs.Freeing.{directory_unnamed}
use Rattle.layer_tree.proofs.layer.Layer.whiteout_reserved.Goals as goal

pub unlink-requires : goal.unlink-requires
unlink-requires c =
    counted_retabled c.self.inside.nodes c.bind_name-entry.new.nodes c.args.dir c.args.name (λ m. map.insert m c.args.name to.Whiteout) 1 c.bind_name-entry.ensures.retables c.self.invariant c.bind_name-entry.result c.bind_name-entry.ensures.value

pub invariant_of-self : goal.invariant_of-self
invariant_of-self c =
    let tree : IsTree c.args.self.now = subst IsTree c.self.view_is c.self.invariant in
    let r : Retables c.args.self.now c.bind_name-entry.new.nodes c.args.dir (λ m. map.insert m c.args.name to.Whiteout) 1 = subst (λ (s : Tree). Retables s c.bind_name-entry.new.nodes c.args.dir (λ m. map.insert m c.args.name to.Whiteout) 1) c.self.view_is c.bind_name-entry.ensures.retables in
    let value : c.bind_name-entry.result ≡ entry c.args.self.now c.args.dir c.args.name = c.bind_name-entry.ensures.value ∙ ap (λ (s : Tree). entry s c.args.dir c.args.name) c.self.view_is in
    IsTree-covered c.args.self.now c.bind_name-entry.new.nodes c.unlink.new.nodes c.args.dir c.args.name c.bind_name-entry.result tree c.requires.is_dir value c.unlink.ensures.unlinks r

pub returns-clause-covers : goal.returns-clause-covers
returns-clause-covers c =
    let tree : IsTree c.args.self.now = subst IsTree c.self.view_is c.self.invariant in
    let r : Retables c.args.self.now c.bind_name-entry.new.nodes c.args.dir (λ m. map.insert m c.args.name to.Whiteout) 1 = subst (λ (s : Tree). Retables s c.bind_name-entry.new.nodes c.args.dir (λ m. map.insert m c.args.name to.Whiteout) 1) c.self.view_is c.bind_name-entry.ensures.retables in
    let value : c.bind_name-entry.result ≡ entry c.args.self.now c.args.dir c.args.name = c.bind_name-entry.ensures.value ∙ ap (λ (s : Tree). entry s c.args.dir c.args.name) c.self.view_is in
    covered_covers c.args.self.now c.bind_name-entry.new.nodes c.unlink.new.nodes c.args.dir c.args.name c.bind_name-entry.result tree c.requires.is_dir value c.unlink.ensures.unlinks r

pub returns-clause-unbinds : goal.returns-clause-unbinds
returns-clause-unbinds c =
    let tree : IsTree c.args.self.now = subst IsTree c.self.view_is c.self.invariant in
    let r : Retables c.args.self.now c.bind_name-entry.new.nodes c.args.dir (λ m. map.insert m c.args.name to.Whiteout) 1 = subst (λ (s : Tree). Retables s c.bind_name-entry.new.nodes c.args.dir (λ m. map.insert m c.args.name to.Whiteout) 1) c.self.view_is c.bind_name-entry.ensures.retables in
    let value : c.bind_name-entry.result ≡ entry c.args.self.now c.args.dir c.args.name = c.bind_name-entry.ensures.value ∙ ap (λ (s : Tree). entry s c.args.dir c.args.name) c.self.view_is in
    covered c.args.self.now c.bind_name-entry.new.nodes c.unlink.new.nodes c.args.dir c.args.name c.bind_name-entry.result tree c.requires.is_dir value c.unlink.ensures.unlinks r

pub returns-clause-unnamed : goal.returns-clause-unnamed
returns-clause-unnamed c =
    let tree : IsTree c.args.self.now = subst IsTree c.self.view_is c.self.invariant in
    let r : Retables c.args.self.now c.bind_name-entry.new.nodes c.args.dir (λ m. map.insert m c.args.name to.Whiteout) 1 = subst (λ (s : Tree). Retables s c.bind_name-entry.new.nodes c.args.dir (λ m. map.insert m c.args.name to.Whiteout) 1) c.self.view_is c.bind_name-entry.ensures.retables in
    let value : c.bind_name-entry.result ≡ entry c.args.self.now c.args.dir c.args.name = c.bind_name-entry.ensures.value ∙ ap (λ (s : Tree). entry s c.args.dir c.args.name) c.self.view_is in
    directory_unnamed c.args.self.now c.unlink.new.nodes c.args.dir c.args.name (Some to.Whiteout) tree (covered c.args.self.now c.bind_name-entry.new.nodes c.unlink.new.nodes c.args.dir c.args.name c.bind_name-entry.result tree c.requires.is_dir value c.unlink.ensures.unlinks r) refl

pub returns-clause-keeps : goal.returns-clause-keeps
returns-clause-keeps c path at bare =
    let tree : IsTree c.args.self.now = subst IsTree c.self.view_is c.self.invariant in
    let r : Retables c.args.self.now c.bind_name-entry.new.nodes c.args.dir (λ m. map.insert m c.args.name to.Whiteout) 1 = subst (λ (s : Tree). Retables s c.bind_name-entry.new.nodes c.args.dir (λ m. map.insert m c.args.name to.Whiteout) 1) c.self.view_is c.bind_name-entry.ensures.retables in
    let value : c.bind_name-entry.result ≡ entry c.args.self.now c.args.dir c.args.name = c.bind_name-entry.ensures.value ∙ ap (λ (s : Tree). entry s c.args.dir c.args.name) c.self.view_is in
    IsLayer-unbinds c.args.self.now c.unlink.new.nodes c.args.dir c.args.name (Some to.Whiteout) (covered c.args.self.now c.bind_name-entry.new.nodes c.unlink.new.nodes c.args.dir c.args.name c.bind_name-entry.result tree c.requires.is_dir value c.unlink.ensures.unlinks r) path at bare (Some layers.Whiteout) (λ k e. cc) (covered_covers c.args.self.now c.bind_name-entry.new.nodes c.unlink.new.nodes c.args.dir c.args.name c.bind_name-entry.result tree c.requires.is_dir value c.unlink.ensures.unlinks r path at) (IsTree-covered c.args.self.now c.bind_name-entry.new.nodes c.unlink.new.nodes c.args.dir c.args.name c.bind_name-entry.result tree c.requires.is_dir value c.unlink.ensures.unlinks r)
