use Rattle.layer_tree.proofs.TableLemmas.{unmade_entry}
use Rattle.layer_tree.proofs.name_table.NameTable.get.Goals as goal

pub returns-in-None : goal.returns-in-None
returns-in-None c = unmade_entry c.self.inside.hashed _ c.args.name.now c.in-None.is c.self.view_is
