use Rattle.std.proofs.Common.{◌==◌}
use Rattle.std.specs.Cmp.Lexicographic.{pointwise}
use Rattle.std.specs.Global.{Vec}
use Rattle.plain_model.specs.Layers.{Name}
use Rattle.merged_lookup.proofs.Keeping.{put-right, names-of}
use Rattle.merged_lookup.proofs.layers.Layers.keep.Goals as goal

pub invariant_of-self : goal.invariant_of-self
invariant_of-self c =
    put-right _ (λ (a b : Vec Name). pointwise (pointwise ◌==◌) a.items b.items) c.self.inside.kept c.put.new.self c.args.names c.args.kept c.put.result c.put.ensures.entries c.put.ensures.err c.self.invariant
    (rw c.self.view_is c.requires) (names-of c.args.names.items)

pub invariant_of-self-then-self-2 : goal.invariant_of-self-then-self-2
invariant_of-self-then-self-2 c =
    put-right _ (λ (a b : Vec Name). pointwise (pointwise ◌==◌) a.items b.items) c.self.inside.kept c.put.new.self c.args.names c.args.kept c.put.result c.put.ensures.entries c.put.ensures.err c.self.invariant
    (rw c.self.view_is c.requires) (names-of c.args.names.items)
