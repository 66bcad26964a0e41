use Rattle.std.proofs.Common.{IfSome, ◌≡◌, ◌∷◌, ap, ◌∙◌, subst, sym, reverse, length, nat_eq, not}
use Rattle.std.proofs.lemmas.List.{reverse-reverse}
use Rattle.plain_model.specs.Layers.{Name, Path}
use Rattle.merged_lookup.specs.declared.kept.Kept.{Kept}
use Rattle.merged_lookup.specs.declared.layers.Layers.{Layers}
use Rattle.merged_lookup.specs.Descent.{descend, first}
use Rattle.merged_lookup.specs.Kept.{HandsDown, IsKept}
use Rattle.merged_lookup.specs.Merged.{lowers_of, trees}
use Rattle.merged_lookup.proofs.Keeping.{some-hands, kept-right}
use Rattle.merged_lookup.proofs.layers.Layers.look_below.Goals as goal

pub handed_places-directory-requires : goal.handed_places-directory-requires
handed_places-directory-requires c =
    some-hands c.args.self.now.upper (reverse c.in-Some.parents.now) c.handed_down.result c.if-is_none.ensures
    (subst (λ t. IfSome c.handed_down.result (HandsDown t (reverse c.in-Some.parents.now))) c.upper.ensures c.handed_down.ensures)

pub keep-requires : goal.keep-requires
keep-requires c =
    let l : Layers = c.args.self.now in
    let p : Path = reverse c.in-Some.parents.now in
    let n : Name = c.in-Some.name.now in
    let k : Kept = record { directory = c.handed_places-directory.result; shown = c.topmost-shown.result } in
    let asked : c.as_slice.result.now ≡ k.directory.items = c.as_slice.ensures.value in
    let path : reverse c.in-Ok.copies.items ≡ n ∷ p =
    ap reverse (c.in-Ok.ensures ∙ c.names.ensures) ∙ reverse-reverse c.args.path.now ∙ c.in-Some.ensures in
    subst (λ q. IsKept (lowers_of l) q k) (sym path)
    (kept-right l p n k c.handed_places-directory.ensures
    (c.topmost-shown.ensures.place ∙ ap (λ s. first (trees l) s n) asked)
    (c.topmost-shown.ensures.directory ∙ ap (λ s. not (nat_eq (length (descend (trees l) s n)) 0)) asked))
