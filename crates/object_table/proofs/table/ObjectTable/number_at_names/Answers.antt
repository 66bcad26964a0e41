use Rattle.std.proofs.Common.{◌≡◌, Some, reverse, subst}
use Rattle.object_table.specs.Objects.{At, Objects, IsVacant, spot_of}
use Rattle.object_table.proofs.Spots as spots
use Rattle.object_table.proofs.Spots.{objects_by}
use Rattle.object_table.proofs.table.ObjectTable.number_at_names.Goals as goal

pub returns-clause-found : goal.returns-clause-found
returns-clause-found c =
    let was = objects_by c.self.inside.tree c.self.inside.files in
    subst (λ (t : Objects). spot_of t c.in_ok-number.number ≡ Some (At (reverse c.args.names.now))) c.self.view_is
    (spots.path-spot was c.in_ok-number.number (reverse c.args.names.now) c.in_ok-number.ensures.found)

pub returns-in_err-number-clause-absent : goal.returns-in_err-number-clause-absent
returns-in_err-number-clause-absent c =
    let was = objects_by c.self.inside.tree c.self.inside.files in
    spots.if_none c.from_residual.result
    (subst (λ (t : Objects). IsVacant t (At (reverse c.args.names.now))) c.self.view_is (λ n is. c.in_err-number.ensures.absent n (spots.opened-path was n (reverse c.args.names.now) is)))
