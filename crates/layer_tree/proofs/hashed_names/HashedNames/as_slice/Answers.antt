use Rattle.std.proofs.Common.{sym, ap, ◌∙◌, List, ℕ}
use Rattle.std.specs.Prelude.{is_some}
use Rattle.std.specs.Str.{bytes_eq}
use Rattle.std.specs.List.{list_any}
use Rattle.std.proofs.lemmas.Map.Made.{is_some-lookup}
use Rattle.layer_tree.specs.Table.{Table, entry_in}
use Rattle.layer_tree.proofs.TableLemmas.{get-entries_of, name_eq}
use Rattle.layer_tree.proofs.hashed_names.HashedNames.as_slice.Goals as goal

pub returns-clause-names : goal.returns-clause-names
returns-clause-names c name =
    ap (λ (xs : List (List ℕ)). list_any (bytes_eq name) xs) (c.as_slice.ensures ∙ c.keys.ensures.rest)
    ∙ sym (is_some-lookup (name_eq name) c.self.inside.table.entries)
    ∙ ap is_some (sym (get-entries_of c.self.inside.table.entries name))
    ∙ ap (λ (t : Table). is_some (entry_in t name)) c.self.view_is
