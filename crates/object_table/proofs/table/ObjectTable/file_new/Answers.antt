use Rattle.std.proofs.Common.{sym, subst, arith}
use Rattle.object_table.specs.declared.dentry.Unlisted.TheVariants as unlisted
use Rattle.object_table.specs.Objects.{Upper, Objects, IsVacant, Holds, SameSpots}
use Rattle.object_table.proofs.Handles.{same-refl}
use Rattle.object_table.proofs.Walking.{on_err}
use Rattle.object_table.proofs.Spots as spots
use Rattle.object_table.proofs.Spots.{objects_by}
use Rattle.object_table.proofs.table.ObjectTable.file_new.Goals as goal

pub invariant_of-self : goal.invariant_of-self
invariant_of-self c =
    let was = objects_by c.self.inside.tree c.self.inside.files in
    let new = objects_by c.self.inside.tree c.reserve.new.self in
    spots.filed-same was new c.self.invariant (spots.keys-same was new (spots.same-spots c.self.inside.tree c.self.inside.tree c.self.inside.files c.reserve.new.self (same-refl _))) (spots.same-found c.self.inside.files c.reserve.new.self c.in_err-reserve.ensures.entries)

pub returns-in_err-reserve-clause-err : goal.returns-in_err-reserve-clause-err
returns-in_err-reserve-clause-err c =
    let new = objects_by c.self.inside.tree c.reserve.new.self in
    on_err c.from_residual.result (subst (λ (t : Objects). SameSpots t new) c.self.view_is (spots.same-spots c.self.inside.tree c.self.inside.tree c.self.inside.files c.reserve.new.self (same-refl _)))

pub invariant_of-self-in_err-number : goal.invariant_of-self-in_err-number
invariant_of-self-in_err-number c =
    let was = objects_by c.self.inside.tree c.self.inside.files in
    let new = objects_by c.add_apart.new.self c.reserve.new.self in
    spots.filed-same was new c.self.invariant (spots.keys-same was new (spots.same-spots c.self.inside.tree c.add_apart.new.self c.self.inside.files c.reserve.new.self c.in_err-number.ensures.err)) (spots.same-found c.self.inside.files c.reserve.new.self c.in_ok-reserve.ensures.entries)

pub returns-in_err-number-clause-err : goal.returns-in_err-number-clause-err
returns-in_err-number-clause-err c =
    let new = objects_by c.add_apart.new.self c.reserve.new.self in
    on_err c.from_residual-in_err-number.result (subst (λ (t : Objects). SameSpots t new) c.self.view_is (spots.same-spots c.self.inside.tree c.add_apart.new.self c.self.inside.files c.reserve.new.self c.in_err-number.ensures.err))

pub invariant_of-self-2 : goal.invariant_of-self-2
invariant_of-self-2 c =
    let was = objects_by c.self.inside.tree c.self.inside.files in
    let mid = objects_by c.self.inside.tree c.reserve.new.self in
    let new = objects_by c.add_apart.new.self c.insert.new.self in
    let kept = spots.filed-same was mid c.self.invariant (spots.keys-same was mid (spots.same-spots c.self.inside.tree c.self.inside.tree c.self.inside.files c.reserve.new.self (same-refl _))) (spots.same-found c.self.inside.files c.reserve.new.self c.in_ok-reserve.ensures.entries) in
    let vacant = subst (λ (t : Objects). IsVacant t (Upper c.args.key)) (sym c.self.view_is) c.requires in
    let adds = c.in_ok-number.ensures.adds in
    spots.filed-in mid new c.in_ok-number.number _ c.args.key kept
    (spots.adds-sets c.self.inside.tree c.add_apart.new.self c.reserve.new.self c.insert.new.self c.in_ok-number.number (unlisted.Upper c.args.key) adds)
    (λ k is. spots.none-upper (spots.adds-unknown c.self.inside.tree c.add_apart.new.self c.reserve.new.self c.insert.new.self c.in_ok-number.number (unlisted.Upper c.args.key) adds) is)
    (spots.vacant-as c.self.inside.tree c.self.inside.files c.reserve.new.self (Upper c.args.key) vacant)
    (spots.in_ok _ c.insert.result (c.insert.ensures.succeeds (omega (arith, c.in_ok-reserve.ensures.ok))) c.insert.ensures.updates)

pub returns-clause-holds : goal.returns-clause-holds
returns-clause-holds c =
    let new = objects_by c.add_apart.new.self c.insert.new.self in
    let vacant = subst (λ (t : Objects). IsVacant t (Upper c.args.key)) (sym c.self.view_is) c.requires in
    subst (λ (t : Objects). Holds t new (Upper c.args.key) c.in_ok-number.number) c.self.view_is
    (spots.adds-holds c.self.inside.tree c.add_apart.new.self c.self.inside.files c.insert.new.self c.in_ok-number.number c.args.key vacant c.in_ok-number.ensures.adds)
