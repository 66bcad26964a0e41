use Rattle.std.proofs.Common.{◌≡◌, map, take}
use Rattle.program_hooks.proofs.hooks_by_slot.Given as goal

-- the hooks so far have the first tags
abbrev pub invariant-loop-tag : goal.invariant-loop-tag
invariant-loop-tag l = map (λ h. h.tag) l.hooks.items ≡ take l.tag-index l.tag-items
