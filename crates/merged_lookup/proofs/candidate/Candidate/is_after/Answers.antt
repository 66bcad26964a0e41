use Rattle.std.proofs.Common.{◌∙◌, ap, ap₂, refl}
use Rattle.std.specs.Ordering.{is_gt, is_some_and, nat_cmp}
use Rattle.std.specs.Cmp.Lexicographic.{slice_cmp, lists_agrees}
use Rattle.merged_lookup.proofs.candidate.Candidate.is_after.Goals as goal

pub returns : goal.returns
returns c =
    c.gt.ensures
    ∙ ap (is_some_and is_gt) (lists_agrees {R = nat_cmp} (λ x y. refl) c.as_slice.result.now c.as_slice-2.result.now)
    ∙ ap₂ (λ xs ys. is_gt (slice_cmp nat_cmp xs ys)) (c.as_slice.ensures.value ∙ c.args.self.now.spelled) (c.as_slice-2.ensures.value ∙ c.args.other.now.spelled)
