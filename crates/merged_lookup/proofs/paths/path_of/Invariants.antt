use Rattle.std.proofs.Common.{◌≡◌, reverse, take}
use Rattle.merged_lookup.proofs.paths.path_of.Given as goal

abbrev pub invariant-loop-name : goal.invariant-loop-name
invariant-loop-name l = l.path ≡ reverse (take l.name-index l.names)
