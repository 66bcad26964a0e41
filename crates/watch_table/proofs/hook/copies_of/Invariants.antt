use Rattle.std.proofs.Common.{◌≡◌, take}
use Rattle.watch_table.proofs.hook.copies_of.Given as goal

-- the copies so far are those of the first hooks
abbrev pub invariant-loop-hook : goal.invariant-loop-hook
invariant-loop-hook g l = l.copies.items ≡ take l.hook-index l.hooks
