use Rattle.std.proofs.Common.{◌≡◌, drop}
use Rattle.layer_tree.specs.Tree.{entry_at}
use Rattle.layer_tree.proofs.Following.{follow}
use Rattle.layer_tree.proofs.layer.Layer.find.Given as goal

abbrev pub invariant-loop-name : goal.invariant-loop-name
invariant-loop-name l = follow l.self l.entry (drop l.name-index l.name-items) ≡ entry_at l.self l.path
