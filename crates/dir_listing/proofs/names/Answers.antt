use Rattle.std.proofs.Common.{◌≡◌, ◌∙◌, List, ℕ, ap, sym, subst, map, rules, is_some, None}
use Rattle.std.specs.List.{list_any, filter}
use Rattle.std.specs.List.Sorted.{IsStrictlySortedBy}
use Rattle.std.specs.Str.{bytes_eq}
use Rattle.std.specs.Ordering.{nat_cmp}
use Rattle.std.specs.Cmp.Lexicographic.{slice_cmp}
use Rattle.std.proofs.lemmas.Fn.{filter_same}
use Rattle.std.proofs.lemmas.List.Kept.{IsStrictlySortedBy-filter}
use Rattle.std.proofs.lemmas.Result.{IfOk-weaker}
use Rattle.merged_lookup.specs.Merged.{trees}
use Rattle.dir_listing.specs.declared.bound.Bound.{Bound}
use Rattle.dir_listing.specs.Bound.{is_object}
use Rattle.dir_listing.specs.Bound.{by_name}
use Rattle.dir_listing.proofs.Merging.{names-rise, objects-listed}
use Rattle.dir_listing.proofs.Showing.{some-shown}
use Rattle.dir_listing.proofs.Runs.{first_over-first, stack-there}
use Rattle.dir_listing.proofs.names.Goals as goal

pub returns-clause-sorted : goal.returns-clause-sorted
returns-clause-sorted c =
    let kept : c.retain.new.self.items ≡ filter is_object c.in_ok-bounds.bounds.items = filter_same _ is_object _ (λ x b f' k. search rules) _ _ c.retain.ensures.filtered in
    let P : List (List ℕ) → Type 0 = λ xs. IsStrictlySortedBy (slice_cmp nat_cmp) xs in
    let rising : P (map (λ (b : Bound). b.name.now) (filter is_object c.in_ok-bounds.bounds.items)) =
    names-rise _ (IsStrictlySortedBy-filter by_name is_object _ c.in_ok-bounds.ensures.sorted) in
    IfOk-weaker c.copies.result _ _ (λ v is. subst P (sym (is ∙ ap (map (λ (b : Bound). b.name.now)) (c.as_slice.ensures.value ∙ kept))) rising) c.copies.ensures

pub returns-clause-names : goal.returns-clause-names
returns-clause-names c =
    let kept : c.retain.new.self.items ≡ filter is_object c.in_ok-bounds.bounds.items = filter_same _ is_object _ (λ x b f' k. search rules) _ _ c.retain.ensures.filtered in
    IfOk-weaker c.copies.result _ _ (λ v is p at n.
    ap (list_any (bytes_eq n)) (is ∙ ap (map (λ (b : Bound). b.name.now)) (c.as_slice.ensures.value ∙ kept))
    ∙ objects-listed n c.in_ok-bounds.bounds.items c.in_ok-bounds.ensures.sorted
    ∙ c.in_ok-bounds.ensures.found (stack-there (trees c.args.layers.now) c.places.result.now p (c.places.ensures ∙ at.places)) n None
    ∙ ap is_some (first_over-first (trees c.args.layers.now) c.places.result.now n)
    ∙ some-shown c.args.layers.now c.places.result.now p n (c.places.ensures ∙ at.places)) c.copies.ensures
