use Rattle.std.proofs.Common.{◌∙◌, Option, ap}
use Rattle.std.specs.Option.{option_and_then, unwrap_or}
use Rattle.toml.specs.Data.{Data, as_array, no_items}
use Rattle.ov_server.proofs.joining.taken_layers.Goals as goal

pub returns-clause-layers : goal.returns-clause-layers
returns-clause-layers c =
    c.array_in.ensures
    ∙ ap (λ (d : Option Data). unwrap_or (option_and_then as_array d) no_items) c.in_ok-before.ensures.before

pub returns-clause-rest : goal.returns-clause-rest
returns-clause-rest c = (_, c.in_ok-before.ensures.put)
