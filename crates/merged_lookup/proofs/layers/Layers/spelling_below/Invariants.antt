use Rattle.std.proofs.Common.{reverse, take}
use Rattle.merged_lookup.specs.Respelling.{IsAt}
use Rattle.merged_lookup.proofs.layers.Layers.spelling_below.Given as goal

-- the names so far are gone through
abbrev pub invariant-loop-name : goal.invariant-loop-name
invariant-loop-name l = IsAt l.upper (reverse (take l.name-index l.name-items)) l.way
