use Rattle.std.proofs.Common.{◌≡◌, drop}
use Rattle.std.specs.Map.{lookup}
use Rattle.std.specs.Str.{bytes_eq}
use Rattle.layer_tree.proofs.hashed_names.HashedNames.find.Given as goal

-- the names so far are others
abbrev pub invariant-loop-index : goal.invariant-loop-index
invariant-loop-index l = lookup (bytes_eq l.name) (drop l.index l.entries) ≡ lookup (bytes_eq l.name) l.entries
