use Rattle.std.proofs.Common.{rules, ◌≡◌, Some, refl, ap₂, ◌∙◌}
use Rattle.ov_base.specs.declared.redirect.Redirect.TheVariants as redirect
use Rattle.plain_model.specs.Layers.{Directory}
use Rattle.merged_lookup.proofs.Trails.{trail-anew}
use Rattle.merged_lookup.proofs.trail.trail_past.Goals as goal

pub returns-in-Some-Absolute-clause-trail : goal.returns-in-Some-Absolute-clause-trail
returns-in-Some-Absolute-clause-trail c = λ upper k a before n is h t.
    let redirected : c.args.marks.now.redirect ≡ Some (redirect.Absolute c.in-Some-Absolute.path) = search rules in
    trail-anew upper before c.args.walked.now n k a is _ c.in-Some-Absolute.path
    (h ∙ ap₂ (λ o r. Some (Directory k a o r)) c.if-marks.false redirected) c.names.ensures refl
