use Rattle.std.proofs.Common.{◌∙◌, ◌&&◌, not, sym, ap, is_some}
use Rattle.plain_model.specs.Layers.{is_directory}
use Rattle.make_remove.proofs.Removing.{unshown-in}
use Rattle.rename_redirect.proofs.Judged.{fits-folder, nothing-shown}
use Rattle.rename_redirect.proofs.renames.directory_fits.Goals as goal

pub returns-in_default-2-2-clause-fits : goal.returns-in_default-2-2-clause-fits
returns-in_default-2-2-clause-fits c = λ p q shown answer.
    let l = c.args.layers.now in
    let none = nothing-shown l q c.args.target.now c.in_default-2.is answer in
    fits-folder l c.args.redirects p q (ap is_directory shown.shown) (ap (λ s. is_some s && not (is_directory s)) none)
    (sym (c.needs_redirect-redirected.ensures l p (record { places = shown.places })) ∙ c.if-redirected.false) (unshown-in l q (ap is_directory none))
