use Rattle.std.proofs.Common.{ap}
use Rattle.std.specs.Prelude.{is_some}
use Rattle.std.specs.List.{IsDistinct}
use Rattle.layer_tree.proofs.TableLemmas.{unmade_entry}
use Rattle.layer_tree.proofs.name_table.NameTable.as_slice.Goals as goal

pub returns-in-None-clause-names : goal.returns-in-None-clause-names
returns-in-None-clause-names c name = ap is_some (unmade_entry c.self.inside.hashed _ name c.in-None.is c.self.view_is)

pub returns-in-None-clause-distinct : goal.returns-in-None-clause-distinct
unfolding IsDistinct
returns-in-None-clause-distinct c = tt
