use Rattle.std.proofs.Common.{reverse, refl, subst}
use Rattle.object_table.specs.Objects.{At, Objects, Holds, SameSpots}
use Rattle.object_table.proofs.Walking.{on_err}
use Rattle.object_table.proofs.Spots as spots
use Rattle.object_table.proofs.Spots.{objects_by}
use Rattle.object_table.proofs.table.ObjectTable.hold_at_names.Goals as goal

pub invariant_of-self : goal.invariant_of-self
invariant_of-self c =
    let was = objects_by c.self.inside.tree c.self.inside.files in
    let new = objects_by c.open_names.new.self c.self.inside.files in
    spots.filed-same was new c.self.invariant (spots.keys-same was new (spots.same-spots _ _ _ _ c.in_err-number.ensures.err)) (λ key. refl)

pub invariant_of-self-2 : goal.invariant_of-self-2
invariant_of-self-2 c =
    let was = objects_by c.self.inside.tree c.self.inside.files in
    let new = objects_by c.open_names.new.self c.self.inside.files in
    spots.filed-same was new c.self.invariant (spots.keys-holds was new c.in_ok-number.number _ (spots.opens-holds _ _ _ _ (reverse c.args.names.now) c.in_ok-number.number c.in_ok-number.ensures.opens) (λ key e. cc)) (λ key. refl)

pub returns-clause-holds : goal.returns-clause-holds
returns-clause-holds c =
    let new = objects_by c.open_names.new.self c.self.inside.files in
    subst (λ (t : Objects). Holds t new (At (reverse c.args.names.now)) c.in_ok-number.number) c.self.view_is
    (spots.opens-holds _ _ _ _ (reverse c.args.names.now) c.in_ok-number.number c.in_ok-number.ensures.opens)

pub returns-in_err-number-clause-err : goal.returns-in_err-number-clause-err
returns-in_err-number-clause-err c =
    let new = objects_by c.open_names.new.self c.self.inside.files in
    on_err c.from_residual.result (subst (λ (t : Objects). SameSpots t new) c.self.view_is (spots.same-spots _ _ _ _ c.in_err-number.ensures.err))
