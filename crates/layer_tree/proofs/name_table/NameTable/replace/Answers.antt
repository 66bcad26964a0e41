use Rattle.std.proofs.Common.{is_some, sym, ap, ◌∙◌, true≢false}
use Rattle.layer_tree.proofs.TableLemmas.{unmade_entry}
use Rattle.layer_tree.proofs.name_table.NameTable.replace.Goals as goal

pub unreachable-requires : goal.unreachable-requires
unreachable-requires c = true≢false (sym (ap is_some (unmade_entry c.self.inside.hashed _ c.args.name.now c.in-None.is c.self.view_is) ∙ c.requires))
