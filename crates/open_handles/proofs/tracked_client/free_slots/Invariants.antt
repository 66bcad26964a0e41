use Rattle.std.proofs.Common.{◌≡◌, ◌≤◌, replicate, None, vec_capacity}
use Rattle.open_handles.proofs.tracked_client.free_slots.Given as goal

-- so many slots are free, and there is room for all
abbrev pub invariant-loop : goal.invariant-loop
invariant-loop g l = record {
  free : l.slots.items ≡ replicate l.counter None;
  room : l.count ≤ vec_capacity l.slots;
}
