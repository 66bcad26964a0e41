use Rattle.std.proofs.Common.{sym, ap, subst, ◌∙◌, List, ℕ}
use Rattle.std.specs.Str.{bytes_eq}
use Rattle.std.specs.List.{list_any, IsDistinct}
use Rattle.std.proofs.lemmas.List.Sorted.{list_any-IsPermutation}
use Rattle.layer_tree.proofs.TableLemmas.{name_eq, sorted_apart}
use Rattle.layer_tree.proofs.hashed_names.HashedNames.sorted.Goals as goal

pub returns-clause-names : goal.returns-clause-names
returns-clause-names c name =
    sym (list_any-IsPermutation (bytes_eq name) _ _ c.sort_unstable.ensures.permutation)
    ∙ ap (λ (xs : List (List ℕ)). list_any (bytes_eq name) xs) c.in_ok-all.ensures
    ∙ c.as_slice.ensures.names name

pub returns-clause-sorted : goal.returns-clause-sorted
returns-clause-sorted c =
    let P : List (List ℕ) → Type 0 = λ xs. IsDistinct name_eq xs in
    sorted_apart _ _ c.sort_unstable.ensures.permutation (subst P (sym c.in_ok-all.ensures) c.as_slice.ensures.distinct) c.sort_unstable.ensures.sorted
