use Rattle.std.proofs.Common.{◌∙◌}
use Rattle.layer_tree.specs.Tree.{layer_of}
use Rattle.layer_tree.proofs.Binding.{SetsPath-after}
use Rattle.layer_tree.proofs.Linking.{Links-after}
use Rattle.layer_tree.proofs.Roots.{key_at-bound}
use Rattle.layer_tree.proofs.Keeping.{IsLayer-same}
use Rattle.layer_tree.proofs.layer.Layer.link.Goals as goal

pub returns-in_err-name_room-clause-keeps : goal.returns-in_err-name_room-clause-keeps
returns-in_err-name_room-clause-keeps c path at = IsLayer-same c.args.self.now c.name_room.new.self c.name_room.ensures.same c.name_room.ensures.objects_held

pub returns-clause-sets : goal.returns-clause-sets
returns-clause-sets c path at =
    SetsPath-after (layer_of c.args.self.now) (layer_of c.name_room.new.self) (layer_of c.link_reserved.new.self) _ _ c.name_room.ensures.objects_held (c.link_reserved.ensures.sets path (key_at-bound c.args.self.now c.name_room.new.self c.name_room.ensures.same.entries path ∙ at))

pub returns-clause-links : goal.returns-clause-links
returns-clause-links c =
    Links-after c.args.self.now c.name_room.new.self c.link_reserved.new.self c.args.dir c.args.key c.args.name c.name_room.ensures.same c.link_reserved.ensures.links

pub returns-clause-keeps : goal.returns-clause-keeps
returns-clause-keeps c path at layer =
    c.link_reserved.ensures.keeps path (key_at-bound c.args.self.now c.name_room.new.self c.name_room.ensures.same.entries path ∙ at)
    (IsLayer-same c.args.self.now c.name_room.new.self c.name_room.ensures.same c.name_room.ensures.objects_held layer)
