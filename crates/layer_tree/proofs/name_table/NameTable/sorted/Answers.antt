use Rattle.std.proofs.Common.{sym, ap, subst, ◌∙◌, List, ℕ}
use Rattle.std.specs.Prelude.{is_some}
use Rattle.std.specs.Str.{bytes_eq}
use Rattle.std.specs.Ordering.{nat_cmp}
use Rattle.std.specs.Cmp.Lexicographic.{slice_cmp}
use Rattle.std.specs.List.{list_any}
use Rattle.std.specs.List.Sorted.{IsStrictlySortedBy}
use Rattle.layer_tree.proofs.TableLemmas.{none_sorted, unmade_entry}
use Rattle.layer_tree.proofs.name_table.NameTable.sorted.Goals as goal

pub returns-in-None-clause-sorted : goal.returns-in-None-clause-sorted
returns-in-None-clause-sorted c = subst (IsStrictlySortedBy (slice_cmp nat_cmp)) (sym c.new.ensures.items) none_sorted

pub returns-in-None-clause-names : goal.returns-in-None-clause-names
returns-in-None-clause-names c name =
    ap (λ (xs : List (List ℕ)). list_any (bytes_eq name) xs) c.new.ensures.items
    ∙ ap is_some (unmade_entry c.self.inside.hashed _ name c.in-None.is c.self.view_is)
