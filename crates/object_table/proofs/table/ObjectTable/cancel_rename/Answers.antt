use Rattle.std.proofs.Common.{refl, subst}
use Rattle.object_table.specs.Objects.{Objects, SameSpots}
use Rattle.object_table.proofs.Spots as spots
use Rattle.object_table.proofs.Spots.{objects_by}
use Rattle.object_table.proofs.table.ObjectTable.cancel_rename.Goals as goal

pub invariant_of-self : goal.invariant_of-self
invariant_of-self c =
    let was = objects_by c.self.inside.tree c.self.inside.files in
    let new = objects_by c.cancel_rename.new.self c.self.inside.files in
    spots.filed-same was new c.self.invariant (spots.keys-same was new (spots.same-spots _ _ _ _ c.cancel_rename.ensures.same)) (λ key. refl)

pub returns-clause-same : goal.returns-clause-same
returns-clause-same c =
    let new = objects_by c.cancel_rename.new.self c.self.inside.files in
    subst (λ (t : Objects). SameSpots t new) c.self.view_is (spots.same-spots _ _ _ _ c.cancel_rename.ensures.same)
