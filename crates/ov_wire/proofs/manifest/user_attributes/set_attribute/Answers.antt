use Rattle.std.proofs.Common.{◌≡◌, true, rules, ◌∙◌}
use Rattle.ov_base.specs.UserValues.{set_value}
use Rattle.ov_wire.specs.ManifestEntries.{is_settable}
use Rattle.ov_wire.proofs.Pairs.{set-settable, set-ok}
use Rattle.ov_wire.proofs.manifest.user_attributes.set_attribute.Goals as goal

pub returns : goal.returns
returns c =
    let settable : is_settable c.args.user.now (c.args.name.now, c.args.value.now) ≡ true = search rules in
    let set : set_value c.args.user.now c.args.name.now c.args.value.now ≡ c.set.new.self = search rules in
    set-settable c.args.user.now c.args.name.now c.args.value.now settable ∙ set-ok _ _ set
