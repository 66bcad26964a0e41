use Rattle.std.proofs.Common.{List, length, ap, sym, ◌∙◌, true≢false}
use Rattle.std.specs.Bool.{◌==◌}
use Rattle.toml.specs.declared.value.Value.{Value}
use Rattle.ov_wire.proofs.Pairs.{past-pair}
use Rattle.ov_wire.proofs.manifest.user_attributes.pair_in.Goals as goal

pub returns-then-not-is_empty : goal.returns-then-not-is_empty
returns-then-not-is_empty c = past-pair c.args.texts.now c.in_ok-name.rest.now c.in_ok-value.rest.now c.in_ok-name.name.now c.in_ok-value.value.now c.in_ok-name.ensures.cases.0 c.in_ok-value.ensures.cases.0
    (λ e. true≢false (sym (c.if-not-is_empty.ensures ∙ ap (λ (vs : List Value). length vs == 0) e)))
