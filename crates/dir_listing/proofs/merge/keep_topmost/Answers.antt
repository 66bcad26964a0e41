use Rattle.std.proofs.Common.{◌≡◌, ◌∙◌, List, ap, sym, subst, rules}
use Rattle.std.specs.List.{dedup}
use Rattle.std.specs.List.Sorted.{IsStrictlySortedBy}
use Rattle.std.specs.Cmp.Lexicographic.{on_texts, texts_ties}
use Rattle.std.proofs.lemmas.Fn.{dedup_same}
use Rattle.std.proofs.lemmas.List.Sorted.{answers_always}
use Rattle.std.proofs.lemmas.List.Kept.{IsStrictlySortedBy-dedup}
use Rattle.dir_listing.specs.declared.bound.Bound.{Bound}
use Rattle.dir_listing.specs.Bound.{by_name}
use Rattle.dir_listing.proofs.Merging.{same_behind, found-sorted, found-dedup}
use Rattle.dir_listing.specs.Bound.{found}
use Rattle.dir_listing.proofs.merge.keep_topmost.Goals as goal

pub returns-clause-sorted : goal.returns-clause-sorted
returns-clause-sorted c =
    let kept : c.dedup_by_key.new.self.items ≡ dedup same_behind c.sort_by_key.new.self.items = dedup_same _ same_behind _ (λ x y b f' x' y' k. search rules) _ _ c.dedup_by_key.ensures.filtered in
    let P : List Bound → Type 0 = λ xs. IsStrictlySortedBy by_name xs in
    subst P (sym kept) (IsStrictlySortedBy-dedup (on_texts (λ (b : Bound). b.name.now)) (λ x y. texts_ties x.name.now y.name.now) c.sort_by_key.new.self.items (c.in_ok-sort_by_key.ensures.sorted (λ b. b.name) (answers_always _ _ _ (λ f a r g h. search rules))))

pub returns-clause-found : goal.returns-clause-found
returns-clause-found c = λ n.
    let kept : c.dedup_by_key.new.self.items ≡ dedup same_behind c.sort_by_key.new.self.items = dedup_same _ same_behind _ (λ x y b f' x' y' k. search rules) _ _ c.dedup_by_key.ensures.filtered in
    ap (found n) kept
    ∙ found-dedup n c.sort_by_key.new.self.items
    ∙ found-sorted c.args.bounds.now.items c.sort_by_key.new.self.items c.in_ok-sort_by_key.ensures.permutation (c.in_ok-sort_by_key.ensures.stable (λ b. b.name) (answers_always _ _ _ (λ f a r g h. search rules))) n
