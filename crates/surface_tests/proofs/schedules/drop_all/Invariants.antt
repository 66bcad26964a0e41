use Rattle.std.proofs.Common.{length}
use Rattle.surface_tests.proofs.schedules.drop_all.Given as goal

abbrev pub decreases-jobs : goal.decreases-jobs
decreases-jobs g l = length l.jobs.items
