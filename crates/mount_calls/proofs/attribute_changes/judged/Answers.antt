use Rattle.std.proofs.Common.{sym, ◌∙◌}
use Rattle.std.proofs.lemmas.Result.{err_from_is_err_and}
use Rattle.merged_lookup.specs.Merged.{layers_of}
use Rattle.mount_calls.proofs.Altering.{chown-link, target-judged, user-judged}
use Rattle.mount_calls.proofs.AttributeCalls.{asking-first, path-next, seen-err, seen-ok, walk-seen}
use Rattle.mount_calls.proofs.attribute_changes.judged.Goals as goal

pub returns-in-Some : goal.returns-in-Some
returns-in-Some c = λ p is. asking-first (layers_of c.args.layers.now) p c.args.call.now c.in-Some.errno (sym c.fault.ensures ∙ c.in-Some.is)

pub returns-in_err-directory : goal.returns-in_err-directory
returns-in_err-directory c = λ p is.
    let told = err_from_is_err_and c.from_residual.result c.from_residual.ensures.1 in
    rw (told.1, told.2) (path-next (layers_of c.args.layers.now) p c.args.call.now _ (sym c.fault.ensures ∙ c.in_default.is) (seen-err c.args.layers.now p c.args.look.now is c.target_seen.result c.target_seen.ensures _ c.in_err-directory.was))

pub attributes_of-requires : goal.attributes_of-requires
attributes_of-requires c = (c.requires.0, (seen-ok c.args.layers.now c.requires.0 c.args.look.now c.requires.1 c.target_seen.result c.target_seen.ensures _ c.in_ok-directory.was).top)

pub returns-in_err-attributes : goal.returns-in_err-attributes
returns-in_err-attributes c = λ p is.
    let told = err_from_is_err_and c.from_residual-in_err-attributes.result c.from_residual-in_err-attributes.ensures.1 in
    let seen = seen-ok c.args.layers.now p c.args.look.now is c.target_seen.result c.target_seen.ensures _ c.in_ok-directory.was in
    let link = c.in_err-attributes.ensures p seen.top in
    rw (told.1, told.2, link.0) (path-next (layers_of c.args.layers.now) p c.args.call.now _ (sym c.fault.ensures ∙ c.in_default.is) (chown-link (layers_of c.args.layers.now) p (walk-seen c.args.layers.now p _ seen) link.1))

pub returns-in-Some-fault_of : goal.returns-in-Some-fault_of
returns-in-Some-fault_of c = λ p is.
    let seen = seen-ok c.args.layers.now p c.args.look.now is c.target_seen.result c.target_seen.ensures _ c.in_ok-directory.was in
    user-judged c.args.call.now c.args.layers.now p _ (sym c.fault.ensures ∙ c.in_default.is) seen c.in_ok-attributes.attributes.now (c.in_ok-attributes.ensures p seen.top) ∙ sym c.fault_of.ensures ∙ c.in-Some-fault_of.is

pub returns-in-None : goal.returns-in-None
returns-in-None c = λ p is.
    let seen = seen-ok c.args.layers.now p c.args.look.now is c.target_seen.result c.target_seen.ensures _ c.in_ok-directory.was in
    target-judged c.args.call.now c.args.layers.now p _ (sym c.fault.ensures ∙ c.in_default.is) seen c.in_ok-attributes.attributes.now (c.in_ok-attributes.ensures p seen.top) (sym c.fault_of.ensures ∙ c.in-None.is)
