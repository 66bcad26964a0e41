use Rattle.std.proofs.Common.{sym, ap, ◌∙◌}
use Rattle.layer_tree.specs.Table.{Table}
use Rattle.layer_tree.proofs.TableLemmas.{entries_of, nil_of_len, len_of_entries_of}
use Rattle.layer_tree.proofs.hashed_names.HashedNames.is_empty.Goals as goal

pub returns : goal.returns
returns c = (λ t. sym (ap (λ (t : Table). t.entries) c.self.view_is) ∙ ap entries_of (nil_of_len c.self.inside.table.entries (c.is_empty.ensures.0 t)), λ e. c.is_empty.ensures.1 (len_of_entries_of c.self.inside.table.entries (ap (λ (t : Table). t.entries) c.self.view_is ∙ e)))
