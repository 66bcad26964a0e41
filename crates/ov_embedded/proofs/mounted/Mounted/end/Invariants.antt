use Rattle.std.specs.BTreeMap.{btree_map_len}
use Rattle.overlay_core.specs.Views.{CoreSame}
use Rattle.ov_embedded.proofs.mounted.Mounted.end.Given as goal

-- nothing but the open jobs changed so far
abbrev pub invariant-jobs : goal.invariant-jobs
invariant-jobs l = CoreSame l.initial.core l.core

abbrev pub decreases-jobs : goal.decreases-jobs
decreases-jobs l = btree_map_len l.jobs
