use Rattle.std.proofs.Common.{◌∙◌, ap}
use Rattle.plain_model.specs.Refusals.{bad_attribute}
use Rattle.plain_model.proofs.AttributeNames.{name-fault}
use Rattle.mount_calls.proofs.user_attributes.name_fault.Goals as goal

pub returns-clause-refusal : goal.returns-clause-refusal
returns-clause-refusal c = c.fault.ensures ∙ name-fault c.as_slice.result.now ∙ ap bad_attribute c.as_slice.ensures
