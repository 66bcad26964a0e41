use Rattle.std.proofs.Common.{reverse, take}
use Rattle.merged_lookup.proofs.Keeping.{IsPlain}
use Rattle.merged_lookup.proofs.kept.handed_down.Given as goal

-- the names so far are handed down as they are
abbrev pub invariant-loop-name : goal.invariant-loop-name
invariant-loop-name l = IsPlain l.upper (reverse (take l.name-index l.names)) l.dir
