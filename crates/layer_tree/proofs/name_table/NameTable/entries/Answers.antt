use Rattle.std.proofs.Common.{sym, subst, ap, ◌∙◌, List, [], ℕ}
use Rattle.std.specs.List.{IsDistinct}
use Rattle.std.specs.Map.{keys_of, lookup}
use Rattle.layer_tree.specs.declared.name_table.Entry.{Entry}
use Rattle.layer_tree.proofs.TableLemmas.{name_eq, unmade_entry}
use Rattle.layer_tree.proofs.name_table.NameTable.entries.Goals as goal

none-distinct : IsDistinct name_eq (keys_of {K = List ℕ} {X = Entry} [])
unfolding IsDistinct
none-distinct = tt

pub returns-in_default-clause-distinct : goal.returns-in_default-clause-distinct
returns-in_default-clause-distinct c =
    let P : List (List ℕ × Entry) → Type 0 = λ es. IsDistinct name_eq (keys_of es) in
    subst P (sym c.new.ensures) none-distinct

pub returns-in_default-clause-entries : goal.returns-in_default-clause-entries
returns-in_default-clause-entries c name =
    let none = ap (λ (es : List (List ℕ × Entry)). lookup (name_eq name) es) c.new.ensures in
    none ∙ unmade_entry c.self.inside.hashed c.args.self.now name c.in_default.is c.self.view_is
