use Rattle.std.proofs.Common.{ap, ◌∙◌}
use Rattle.layer_tree.specs.Table.{Table}
use Rattle.layer_tree.proofs.TableLemmas.{entries_of}
use Rattle.layer_tree.proofs.hashed_names.HashedNames.reserve.Goals as goal

pub returns-clause-entries : goal.returns-clause-entries
returns-clause-entries c = ap entries_of c.reserve.ensures.entries ∙ ap (λ (t : Table). t.entries) c.self.view_is
