use Rattle.merged_lookup.proofs.Keeping.{promoted-right}
use Rattle.merged_lookup.proofs.layers.Layers.promote.Goals as goal

pub invariant_of-self : goal.invariant_of-self
invariant_of-self c =
    promoted-right _ _ c.self.inside.kept c.promote.new.self c.promote.ensures.entries c.self.invariant
