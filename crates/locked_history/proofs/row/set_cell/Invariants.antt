use Rattle.std.proofs.Common.{◌≡◌}
use Rattle.locked_history.proofs.row.set_cell.Given as goal

abbrev pub invariant-loop : goal.invariant-loop
invariant-loop g l = l.left.value ≡ l.initial.left.value
