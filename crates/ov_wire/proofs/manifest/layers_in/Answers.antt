use Rattle.std.proofs.Common.{◌∙◌, ap, sym}
use Rattle.ov_wire.specs.Manifests.{items_len}
use Rattle.ov_wire.proofs.Tables.{items_len-view}
use Rattle.ov_wire.proofs.manifest.layers_in.Goals as goal

pub returns-clause-count : goal.returns-clause-count
returns-clause-count c = sym (items_len-view c.array_at.result.now) ∙ ap items_len c.array_at.ensures
