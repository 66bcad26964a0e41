use Rattle.std.specs.BTreeMap.{btree_map_len}
use Rattle.overlay_core.specs.Views.{CoreSame}
use Rattle.ov_server.proofs.stage.Stage.end.Given as goal

-- nothing but the open jobs changed so far
abbrev pub invariant-calls : goal.invariant-calls
invariant-calls g l = CoreSame l.initial.core l.core

abbrev pub decreases-calls : goal.decreases-calls
decreases-calls g l = btree_map_len l.calls
