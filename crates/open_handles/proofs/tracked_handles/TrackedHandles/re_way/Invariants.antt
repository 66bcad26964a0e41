use Rattle.std.proofs.Common.{◌≡◌, ◌++◌, map, take, drop}
use Rattle.open_handles.proofs.TrackedWays.{re_table}
use Rattle.open_handles.proofs.tracked_handles.TrackedHandles.re_way.Given as goal

-- the clients so far have the new way
abbrev pub invariant-loop-client : goal.invariant-loop-client
invariant-loop-client l = l.client-items ≡ map (re_table l.fn.object l.fn.from l.fn.to) (take l.client-index l.fn.self) ++ drop l.client-index l.fn.self
