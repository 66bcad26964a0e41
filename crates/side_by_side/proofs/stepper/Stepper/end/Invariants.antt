use Rattle.std.specs.BTreeMap.{btree_map_len}
use Rattle.side_by_side.proofs.stepper.Stepper.end.Given as goal

abbrev pub decreases-jobs : goal.decreases-jobs
decreases-jobs g l = btree_map_len l.jobs
