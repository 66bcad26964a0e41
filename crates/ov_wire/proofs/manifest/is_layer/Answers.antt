use Rattle.ov_wire.specs.Manifests.{is_layer_key}
use Rattle.ov_wire.proofs.Tables.{members_all-view}
use Rattle.ov_wire.proofs.manifest.is_layer.Goals as goal

pub returns-in-Some : goal.returns-in-Some
returns-in-Some c =
    let keys = rw c.in-Some.is at c.as_table.ensures in
    rw (← keys, members_all-view is_layer_key _) c.has_layer_keys.ensures
