use Rattle.std.proofs.Common.{◌≡◌, Option, Some, sym, subst, rules}
use Rattle.plain_model.specs.Layers as held
use Rattle.plain_model.specs.Layers.{Object}
use Rattle.merged_lookup.specs.Descent.{holds_in}
use Rattle.merged_lookup.specs.Kept.{Steps}
use Rattle.merged_lookup.proofs.kept.step_in.Goals as goal

pub returns-in-Some-Directory : goal.returns-in-Some-Directory
returns-in-Some-Directory c =
    let d = c.in-Some-Directory.directory in
    let is : holds_in c.args.layer.now c.args.dir c.args.name.now ≡ Some (held.Directory c.in-Some-Object.key d.attributes d.marks.opaque d.marks.redirect) = search rules in
    let P : Option Object → Type 0 = λ o. Steps o c.step_by.result in
    subst P (sym is) (c.step_by.ensures d.attributes)
