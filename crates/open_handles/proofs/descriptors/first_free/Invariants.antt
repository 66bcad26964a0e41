use Rattle.std.proofs.Common.{◌≡◌, ◌<◌, true, ℕ, is_some}
use Rattle.open_handles.specs.Descriptors.{opened}
use Rattle.open_handles.proofs.descriptors.first_free.Given as goal

-- the slots so far are taken
abbrev pub invariant-loop-k : goal.invariant-loop-k
invariant-loop-k l = (j : ℕ) → j < l.k → is_some (opened l.slots j) ≡ true
