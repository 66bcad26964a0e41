use Rattle.std.proofs.Common.{sym, subst, List, [], ℕ}
use Rattle.std.specs.List.{IsDistinct}
use Rattle.std.specs.Map.{keys_of}
use Rattle.layer_tree.specs.declared.name_table.Entry.{Entry}
use Rattle.layer_tree.proofs.TableLemmas.{name_eq}
use Rattle.layer_tree.proofs.layer.Layer.entries.Goals as goal

none-distinct : IsDistinct name_eq (keys_of {K = List ℕ} {X = Entry} [])
unfolding IsDistinct
none-distinct = tt

pub returns-in_default-clause-distinct : goal.returns-in_default-clause-distinct
returns-in_default-clause-distinct c =
    let P : List (List ℕ × Entry) → Type 0 = λ es. IsDistinct name_eq (keys_of es) in
    subst P (sym c.new.ensures) none-distinct
