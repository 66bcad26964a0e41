use Rattle.std.proofs.Common.{◌≡◌, count_by, sum_by, take}
use Rattle.open_handles.specs.TrackedHandles.{slot_came_by}
use Rattle.open_handles.proofs.tracked_handles.TrackedHandles.count_by.Given as goal

-- the handles of the clients so far are counted
abbrev pub invariant-loop-client : goal.invariant-loop-client
invariant-loop-client l = l.count ≡ sum_by (λ k. count_by (slot_came_by l.fn.object l.fn.way) k.slots) (take l.client-index l.client-items)
