use Rattle.std.proofs.Common.{◌+◌, ◌-◌, length}
use Rattle.dir_listing.proofs.Runs.{IsMerging}
use Rattle.dir_listing.proofs.merge.merged.Given as goal

abbrev pub invariant-loop-first : goal.invariant-loop-first
invariant-loop-first l = IsMerging l.upper l.lower l.all.items l.first l.second

abbrev pub decreases-loop-first : goal.decreases-loop-first
decreases-loop-first l = (length l.upper - l.first) + (length l.lower - l.second)
