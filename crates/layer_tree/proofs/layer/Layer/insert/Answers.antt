use Rattle.std.proofs.Common.{◌∙◌}
use Rattle.layer_tree.specs.Tree.{layer_of}
use Rattle.layer_tree.proofs.Binding.{Inserts-after, vacant_before, SetsPath-after}
use Rattle.layer_tree.proofs.Roots.{key_at-bound}
use Rattle.layer_tree.proofs.layer.Layer.insert.Goals as goal

pub returns-clause-sets : goal.returns-clause-sets
returns-clause-sets c path at =
    SetsPath-after (layer_of c.args.self.now) (layer_of c.room.new.self) (layer_of c.insert_reserved.new.self) _ _ c.room.ensures.objects_held (c.insert_reserved.ensures.sets path (key_at-bound c.args.self.now c.room.new.self c.room.ensures.same.entries path ∙ at))

pub returns-clause-inserts : goal.returns-clause-inserts
returns-clause-inserts c =
    Inserts-after c.args.self.now c.room.new.self c.insert_reserved.new.self c.args.dir c.insert_reserved.result c.args.name c.args.object c.room.ensures.same (vacant_before c.args.self.now c.room.new.self c.insert_reserved.result c.room.ensures.same c.insert_reserved.ensures.inserts.fresh) c.insert_reserved.ensures.inserts

pub returns-clause-keeps : goal.returns-clause-keeps
returns-clause-keeps c path at layer =
    c.insert_reserved.ensures.keeps path (key_at-bound c.args.self.now c.room.new.self c.room.ensures.same.entries path ∙ at) (c.room.ensures.keeps layer)
