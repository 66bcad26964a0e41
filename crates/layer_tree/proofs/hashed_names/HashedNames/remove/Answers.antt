use Rattle.std.proofs.Common.{sym, ap, ◌∙◌}
use Rattle.std.specs.FinMap as map
use Rattle.layer_tree.specs.Table.{Table, entry_in}
use Rattle.layer_tree.proofs.TableLemmas.{get-entries_of, entries_of_remove}
use Rattle.layer_tree.proofs.hashed_names.HashedNames.remove.Goals as goal

pub returns-clause-value : goal.returns-clause-value
returns-clause-value c = c.swap_remove.ensures.value ∙ sym (get-entries_of _ _) ∙ ap (λ (t : Table). entry_in t c.args.name.now) c.self.view_is

pub returns-clause-entries : goal.returns-clause-entries
returns-clause-entries c = entries_of_remove c.self.inside.table.entries _ c.args.name.now c.swap_remove.ensures.updates.0 ∙ ap (λ (t : Table). map.remove t.entries c.args.name.now) c.self.view_is
