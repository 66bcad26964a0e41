use Rattle.std.proofs.Common.{◌≡◌, Some, None, refl, subst}
use Rattle.object_table.specs.declared.dentry.Unlisted.TheVariants as unlisted
use Rattle.object_table.specs.Objects.{Nowhere, Objects, SetsSpot, SameSpots, spot_of}
use Rattle.object_table.proofs.Walking.{on_err}
use Rattle.object_table.proofs.Spots as spots
use Rattle.object_table.proofs.Spots.{objects_by}
use Rattle.object_table.proofs.table.ObjectTable.hold_new.Goals as goal

pub invariant_of-self : goal.invariant_of-self
invariant_of-self c =
    let was = objects_by c.self.inside.tree c.self.inside.files in
    let new = objects_by c.add_apart.new.self c.self.inside.files in
    spots.filed-same was new c.self.invariant (spots.keys-same was new (spots.same-spots _ _ _ _ c.in_err-number.ensures.err)) (λ key. refl)

pub invariant_of-self-2 : goal.invariant_of-self-2
invariant_of-self-2 c =
    let was = objects_by c.self.inside.tree c.self.inside.files in
    let new = objects_by c.add_apart.new.self c.self.inside.files in
    let adds = c.in_ok-number.ensures.adds in
    spots.filed-same was new c.self.invariant (spots.keys-added was new c.in_ok-number.number (Some Nowhere) (spots.adds-unknown _ _ _ c.self.inside.files _ unlisted.Nowhere adds)
    (spots.adds-sets _ _ _ _ _ unlisted.Nowhere adds) (λ key e. cc)) (λ key. refl)

pub returns-clause-unknown : goal.returns-clause-unknown
returns-clause-unknown c =
    subst (λ (t : Objects). spot_of t c.in_ok-number.number ≡ None) c.self.view_is
    (spots.adds-unknown _ c.add_apart.new.self _ c.self.inside.files _ unlisted.Nowhere c.in_ok-number.ensures.adds)

pub returns-clause-holds : goal.returns-clause-holds
returns-clause-holds c =
    let new = objects_by c.add_apart.new.self c.self.inside.files in
    subst (λ (t : Objects). SetsSpot t new c.in_ok-number.number (Some Nowhere) 1) c.self.view_is
    (spots.adds-sets _ _ _ _ _ unlisted.Nowhere c.in_ok-number.ensures.adds)

pub returns-in_err-number-clause-err : goal.returns-in_err-number-clause-err
returns-in_err-number-clause-err c =
    let new = objects_by c.add_apart.new.self c.self.inside.files in
    on_err c.from_residual.result (subst (λ (t : Objects). SameSpots t new) c.self.view_is (spots.same-spots _ _ _ _ c.in_err-number.ensures.err))
