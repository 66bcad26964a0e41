use Rattle.std.proofs.Common.{◌≡◌, ◌++◌, map, take, drop}
use Rattle.work_dir.specs.OpenJobs.{unless_of}
use Rattle.work_dir.proofs.table.WorkDir.forget.Given as goal

-- the jobs so far are not the client's
abbrev pub invariant-loop-job : goal.invariant-loop-job
invariant-loop-job l = l.job-items ≡ map (unless_of l.fn.client) (take l.job-index l.fn.self) ++ drop l.job-index l.fn.self
