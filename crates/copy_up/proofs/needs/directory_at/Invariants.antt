use Rattle.std.proofs.Common.{take, reverse}
use Rattle.merged_lookup.specs.Merged.{IsStackOf}
use Rattle.copy_up.proofs.needs.directory_at.Given as goal

abbrev pub invariant-loop-name : goal.invariant-loop-name
invariant-loop-name l = IsStackOf l.layers (reverse (take l.name-index l.names)) l.stack
