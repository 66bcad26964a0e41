use Rattle.std.proofs.Common.{All}
use mathlib.Core.List.{IsPrefix}
use Rattle.socket_server.proofs.endless_serving.longest.Given as goal

-- the fronts of the first workers begin this one
abbrev pub invariant-loop-worked : goal.invariant-loop-worked
invariant-loop-worked g l = All (λ worked. IsPrefix worked.kept l.seen) l.yielded
