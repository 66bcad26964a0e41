use Rattle.std.proofs.Common.{ap, ◌∙◌}
use Rattle.layer_tree.specs.Tree.{ROOT}
use Rattle.layer_tree.specs.declared.name_table.Entry.TheVariants as to
use Rattle.layer_tree.proofs.Following.{follow, follow-path}
use Rattle.layer_tree.proofs.layer.Layer.find.Goals as goal

pub loop-name-init : goal.loop-name-init
loop-name-init c = ap (follow c.args.self.now (to.Object ROOT)) c.names-name-items.ensures ∙ follow-path c.args.self.now c.args.path.now
