use Rattle.std.proofs.Common.{◌∙◌, ap₂}
use Rattle.plain_model.specs.Layers.{same_path}
use Rattle.rename_redirect.proofs.Below.{same-reversed}
use Rattle.rename_redirect.proofs.relation.same_path.Goals as goal

pub returns : goal.returns
returns c = c.eq.ensures ∙ ap₂ same_path c.names.ensures c.names-2.ensures ∙ same-reversed c.args.path.now c.args.other.now
