use Rattle.std.proofs.Common.{◌∙◌}
use Rattle.layer_tree.specs.Tree.{layer_of}
use Rattle.layer_tree.proofs.Binding.{Unbinds-after, ReplacesPath-after}
use Rattle.layer_tree.proofs.Roots.{key_at-bound}
use Rattle.layer_tree.proofs.Keeping.{IsLayer-same, HoldsNoObjects-alike}
use Rattle.layer_tree.proofs.layer.Layer.insert_whiteout.Goals as goal

pub returns-clause-covers : goal.returns-clause-covers
returns-clause-covers c path at =
    ReplacesPath-after (layer_of c.args.self.now) (layer_of c.name_room.new.self) (layer_of c.whiteout_reserved.new.self) _ _ c.name_room.ensures.objects_held (c.whiteout_reserved.ensures.covers path (key_at-bound c.args.self.now c.name_room.new.self c.name_room.ensures.same.entries path ∙ at))

pub returns-clause-unbinds : goal.returns-clause-unbinds
returns-clause-unbinds c =
    Unbinds-after c.args.self.now c.name_room.new.self c.whiteout_reserved.new.self c.args.dir c.args.name _ c.name_room.ensures.same c.whiteout_reserved.ensures.unbinds

pub returns-in_err-name_room-clause-keeps : goal.returns-in_err-name_room-clause-keeps
returns-in_err-name_room-clause-keeps c path at bare = IsLayer-same c.args.self.now c.name_room.new.self c.name_room.ensures.same c.name_room.ensures.objects_held

pub returns-clause-keeps : goal.returns-clause-keeps
returns-clause-keeps c path at bare layer =
    c.whiteout_reserved.ensures.keeps path (key_at-bound c.args.self.now c.name_room.new.self c.name_room.ensures.same.entries path ∙ at)
    (HoldsNoObjects-alike c.args.self.now c.name_room.new.self c.name_room.ensures.same c.args.dir c.args.name bare)
    (IsLayer-same c.args.self.now c.name_room.new.self c.name_room.ensures.same c.name_room.ensures.objects_held layer)
