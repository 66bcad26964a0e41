use Rattle.std.proofs.Common.{◌∙◌, sym}
use Rattle.std.proofs.lemmas.Result.{on_ok_weaker, IfErr-weaker}
use Rattle.plain_model.specs.Layers.{Path}
use Rattle.merged_lookup.specs.Merged.{IsFound, IsAnswer, ShowsDirectory}
use Rattle.make_remove.proofs.Removing.{found-inode, found-directory}
use Rattle.rename_redirect.specs.Judging.{fit_fault, IsFaultOf}
use Rattle.rename_redirect.proofs.Judged.{fits-inode}
use Rattle.rename_redirect.proofs.renames.fits.Goals as goal

pub returns-in-Inode-2-clause-fits : goal.returns-in-Inode-2-clause-fits
returns-in-Inode-2-clause-fits c = λ p q h answer.
    let l = c.args.layers.now in
    fits-inode l c.args.redirects p q (found-inode l p c.args.found.now c.in-Inode-2.field-0 c.in-Inode-2.is h) (sym (c.is_directory.ensures l q answer) ∙ c.if-is_directory.false)

pub returns-in-Directory-clause-fits : goal.returns-in-Directory-clause-fits
returns-in-Directory-clause-fits c = on_ok_weaker c.directory_fits.result (λ f p q h answer. f p q (found-directory c.args.layers.now p c.args.found.now c.in-Directory.stack c.in-Directory.is h) answer) c.directory_fits.ensures.fits

pub returns-in-Directory-clause-refused : goal.returns-in-Directory-clause-refused
returns-in-Directory-clause-refused c =
    let l = c.args.layers.now in
    IfErr-weaker c.directory_fits.result
    (λ e. (p q : Path) → ShowsDirectory l p c.in-Directory.stack.places.items → IsAnswer l q c.args.target.now → IsFaultOf l q (fit_fault l c.args.redirects p q) e)
    (λ e. (p q : Path) → IsFound l p c.args.found.now → IsAnswer l q c.args.target.now → IsFaultOf l q (fit_fault l c.args.redirects p q) e)
    (λ e f p q h answer. f p q (found-directory l p c.args.found.now c.in-Directory.stack c.in-Directory.is h) answer)
    c.directory_fits.ensures.refused
