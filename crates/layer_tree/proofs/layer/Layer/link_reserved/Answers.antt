use Rattle.std.proofs.Common.{subst}
use Rattle.std.specs.FinMap as map
use Rattle.layer_tree.specs.Change.{Retables}
use Rattle.layer_tree.specs.Tree.{Tree, IsTree}
use Rattle.layer_tree.specs.declared.name_table.Entry.TheVariants as to
use Rattle.layer_tree.proofs.Linking.{links, counted_inode, IsTree-links, IsLayer-links, links_sets}
use Rattle.layer_tree.proofs.layer.Layer.link_reserved.Goals as goal

pub returns-clause-links : goal.returns-clause-links
returns-clause-links c =
    let r : Retables c.args.self.now c.bind_name.new.nodes c.args.dir (λ m. map.insert m c.args.name (to.Object c.args.key)) 1 = subst (λ (s : Tree). Retables s c.bind_name.new.nodes c.args.dir (λ m. map.insert m c.args.name (to.Object c.args.key)) 1) c.self.view_is c.bind_name.ensures.retables in
    links c.args.self.now c.bind_name.new.nodes c.count_name.new.nodes c.args.dir c.args.key c.args.name r c.count_name.ensures.gains

pub invariant_of-self : goal.invariant_of-self
invariant_of-self c =
    let tree : IsTree c.args.self.now = subst IsTree c.self.view_is c.self.invariant in
    let i = counted_inode c.args.self.now c.args.key c.requires.count in
    let r : Retables c.args.self.now c.bind_name.new.nodes c.args.dir (λ m. map.insert m c.args.name (to.Object c.args.key)) 1 = subst (λ (s : Tree). Retables s c.bind_name.new.nodes c.args.dir (λ m. map.insert m c.args.name (to.Object c.args.key)) 1) c.self.view_is c.bind_name.ensures.retables in
    let l = links c.args.self.now c.bind_name.new.nodes c.count_name.new.nodes c.args.dir c.args.key c.args.name r c.count_name.ensures.gains in
    IsTree-links c.args.self.now c.count_name.new.nodes c.args.dir c.args.key c.args.name tree c.requires.is_dir i.0 i.1 l c.requires.no_object

pub returns-clause-sets : goal.returns-clause-sets
returns-clause-sets c =
    let tree : IsTree c.args.self.now = subst IsTree c.self.view_is c.self.invariant in
    let i = counted_inode c.args.self.now c.args.key c.requires.count in
    let r : Retables c.args.self.now c.bind_name.new.nodes c.args.dir (λ m. map.insert m c.args.name (to.Object c.args.key)) 1 = subst (λ (s : Tree). Retables s c.bind_name.new.nodes c.args.dir (λ m. map.insert m c.args.name (to.Object c.args.key)) 1) c.self.view_is c.bind_name.ensures.retables in
    let l = links c.args.self.now c.bind_name.new.nodes c.count_name.new.nodes c.args.dir c.args.key c.args.name r c.count_name.ensures.gains in
    links_sets c.args.self.now c.count_name.new.nodes c.args.dir c.args.key c.args.name tree c.requires.is_dir i.0 i.1 l c.requires.no_object

pub returns-clause-keeps : goal.returns-clause-keeps
returns-clause-keeps c =
    let tree : IsTree c.args.self.now = subst IsTree c.self.view_is c.self.invariant in
    let i = counted_inode c.args.self.now c.args.key c.requires.count in
    let r : Retables c.args.self.now c.bind_name.new.nodes c.args.dir (λ m. map.insert m c.args.name (to.Object c.args.key)) 1 = subst (λ (s : Tree). Retables s c.bind_name.new.nodes c.args.dir (λ m. map.insert m c.args.name (to.Object c.args.key)) 1) c.self.view_is c.bind_name.ensures.retables in
    let l = links c.args.self.now c.bind_name.new.nodes c.count_name.new.nodes c.args.dir c.args.key c.args.name r c.count_name.ensures.gains in
    IsLayer-links c.args.self.now c.count_name.new.nodes c.args.dir c.args.key c.args.name tree c.requires.is_dir i.0 i.1 l c.requires.no_object
