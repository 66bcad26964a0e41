use Rattle.std.proofs.Common.{◌≡◌, vec_len}
use Rattle.locked_history.proofs.row.empty_row.Given as goal

abbrev pub invariant-loop-i : goal.invariant-loop-i
invariant-loop-i l = vec_len l.row ≡ l._i
