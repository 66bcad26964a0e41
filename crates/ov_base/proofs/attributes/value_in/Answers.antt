use Rattle.std.proofs.Common.{sym, ap, ◌∙◌}
use Rattle.std.specs.Option.{option_copied}
use Rattle.ov_base.proofs.UserPlaces.{value-found, value-absent}
use Rattle.ov_base.proofs.attributes.value_in.Goals as goal

pub returns-in_err-place : goal.returns-in_err-place
returns-in_err-place c = ap option_copied c.from_residual.ensures ∙ sym (value-absent c.args.values.now c.args.name.now (sym c.in_err-place.ensures))

pub returns : goal.returns
returns c = sym (value-found c.args.values.now c.args.name.now c.in_ok-place.place c.index-values-place.result (sym c.in_ok-place.ensures))
