use Rattle.layer_tree.proofs.TableLemmas.{unmade_entry, unmade_remove}
use Rattle.layer_tree.proofs.name_table.NameTable.remove.Goals as goal

pub returns-in_default-clause-value : goal.returns-in_default-clause-value
returns-in_default-clause-value c = unmade_entry c.self.inside.hashed _ c.args.name.now c.in_default.is c.self.view_is

pub returns-in_default-clause-entries : goal.returns-in_default-clause-entries
returns-in_default-clause-entries c = unmade_remove c.self.inside.hashed _ c.args.name.now c.in_default.is c.self.view_is
