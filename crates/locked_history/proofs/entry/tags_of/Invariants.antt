use Rattle.std.proofs.Common.{◌≡◌, map, take}
use Rattle.locked_history.proofs.entry.tags_of.Given as goal

abbrev pub invariant-loop-hook : goal.invariant-loop-hook
invariant-loop-hook g l = l.tags.items ≡ map (λ h. h.tag) (take l.hook-index l.initial.hooks)
