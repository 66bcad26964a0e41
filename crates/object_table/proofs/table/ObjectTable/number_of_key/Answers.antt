use Rattle.std.proofs.Common.{subst}
use Rattle.std.proofs.lemmas.List.{nil_from_length}
use Rattle.object_table.specs.Objects.{Upper, Objects, IsVacant}
use Rattle.object_table.proofs.Spots as spots
use Rattle.object_table.proofs.Spots.{objects_by}
use Rattle.object_table.proofs.table.ObjectTable.number_of_key.Goals as goal

pub returns-then-is_empty-clause-absent : goal.returns-then-is_empty-clause-absent
returns-then-is_empty-clause-absent c =
    let was = objects_by c.self.inside.tree c.self.inside.files in
    subst (λ (t : Objects). IsVacant t (Upper c.args.key)) c.self.view_is (spots.none-filed was c.self.invariant c.args.key (spots.none-found c.self.inside.files (nil_from_length c.self.inside.files.entries (c.is_empty.ensures.0 c.if-is_empty.true)) c.args.key))
