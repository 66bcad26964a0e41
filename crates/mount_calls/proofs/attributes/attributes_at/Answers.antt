use Rattle.std.proofs.Common.{refl}
use Rattle.std.proofs.lemmas.Result.{err_from_is_err_and}
use Rattle.merged_lookup.specs.Merged.{layers_of}
use Rattle.mount_calls.proofs.Altering.{chown-link, shows-open}
use Rattle.mount_calls.proofs.attributes.attributes_at.Goals as goal

pub returns-in_err-attributes-clause-refused : goal.returns-in_err-attributes-clause-refused
returns-in_err-attributes-clause-refused c =
    let p = err_from_is_err_and c.from_residual-in_err-attributes.result c.from_residual-in_err-attributes.ensures.1 in
    let link = c.in_err-attributes.ensures c.args.path.now c.in_ok-top.ensures.found in
    rw (p.1, p.2, link.0) (chown-link (layers_of c.args.layers.now) c.args.path.now (c.in_ok-top.ensures.answers.0 refl) link.1)

pub returns-clause-shown : goal.returns-clause-shown
returns-clause-shown c =
    shows-open (layers_of c.args.layers.now) c.args.path.now c.in_ok-attributes.attributes.now (c.in_ok-top.ensures.answers.0 refl)
    (c.in_ok-attributes.ensures c.args.path.now c.in_ok-top.ensures.found)
