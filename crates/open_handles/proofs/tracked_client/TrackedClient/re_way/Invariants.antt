use Rattle.std.proofs.Common.{◌≡◌, ◌++◌, map, take, drop}
use Rattle.open_handles.proofs.TrackedWays.{re_slot}
use Rattle.open_handles.proofs.tracked_client.TrackedClient.re_way.Given as goal

-- the slots so far have the new way
abbrev pub invariant-loop-slot : goal.invariant-loop-slot
invariant-loop-slot l = l.slot-items ≡ map (re_slot l.fn.object l.fn.from l.fn.to) (take l.slot-index l.fn.self.slots) ++ drop l.slot-index l.fn.self.slots
