use Rattle.std.proofs.Common.{◌<◌, sym, subst, arith}
use Rattle.layer_tree.specs.Table.{Table}
use Rattle.layer_tree.proofs.TableLemmas.{unmade, unmade_entry}
use Rattle.layer_tree.proofs.name_table.NameTable.put_reserved.Goals as goal

pub unreachable-requires : goal.unreachable-requires
unreachable-requires c =
    let absent = sym (unmade_entry c.self.inside.hashed _ c.args.name c.in-None.is c.self.view_is) in
    let no_room : 0 < 0 = subst (λ (t : Table). 0 < t.spare) (unmade c.self.inside.hashed _ c.in-None.is c.self.view_is) (c.requires absent) in
    absurd (omega arith)
