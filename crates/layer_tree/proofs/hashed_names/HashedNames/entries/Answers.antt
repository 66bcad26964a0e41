use Rattle.std.proofs.Common.{sym, ap, ◌∙◌, List, ℕ}
use Rattle.std.specs.Map.{lookup}
use Rattle.layer_tree.specs.Table.{Table, entry_in}
use Rattle.layer_tree.specs.declared.name_table.Entry.{Entry}
use Rattle.layer_tree.proofs.TableLemmas.{get-entries_of, name_eq}
use Rattle.layer_tree.proofs.hashed_names.HashedNames.entries.Goals as goal

pub returns-clause-entries : goal.returns-clause-entries
returns-clause-entries c name =
    ap (λ (es : List (List ℕ × Entry)). lookup (name_eq name) es) c.as_slice.ensures.entries
    ∙ sym (get-entries_of c.self.inside.table.entries name)
    ∙ ap (λ (t : Table). entry_in t name) c.self.view_is
