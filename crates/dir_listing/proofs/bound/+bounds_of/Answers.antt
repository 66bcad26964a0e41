use Rattle.std.proofs.Common.{◌∙◌, ◌++◌, ap₂, sym, subst}
use Rattle.std.specs.List.Sorted.{IsStrictlySortedBy}
use Rattle.std.proofs.lemmas.List.{take-append-drop}
use Rattle.std.proofs.lemmas.Result.{IfOk-weaker}
use Rattle.merged_lookup.specs.Merged.{trees}
use Rattle.dir_listing.specs.Bound.{by_name, found, shows_or}
use Rattle.dir_listing.proofs.Runs.{none-rise, found-parts}
use Rattle.dir_listing.proofs.bound.+bounds_of.Goals as goal

pub returns-in-empty-clause-sorted : goal.returns-in-empty-clause-sorted
returns-in-empty-clause-sorted t c = subst (IsStrictlySortedBy by_name) (sym c.new.ensures.items) none-rise

pub returns-in_ok-lower-in_default-clause-found : goal.returns-in_ok-lower-in_default-clause-found
returns-in_ok-lower-in_default-clause-found t c =
    let whole = ap₂ (λ xs ys. xs ++ ys) c.split_at.ensures.front c.split_at.ensures.back ∙ take-append-drop _ c.args.places.now in
    IfOk-weaker c.merged.result _ _ (λ v joined there n s.
    found-parts (trees c.args.layers.now) _ _ c.args.places.now c.in_ok-upper-in_default.upper.items c.in_ok-lower-in_default.lower.items v.items n s whole there (λ h. c.in_ok-upper-in_default.ensures.found h n) (λ h. c.in_ok-lower-in_default.ensures.found h n) (λ b.
    joined n b ∙ ap₂ (λ us ls. shows_or (found n us) (shows_or (found n ls) b)) c.as_slice.ensures.value c.as_slice-in_default.ensures.value)) c.merged.ensures.found
