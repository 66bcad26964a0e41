use Rattle.std.proofs.Common.{◌≡◌, drop, reverse}
use Rattle.layer_tree.specs.Tree.{entry_at}
use Rattle.layer_tree.specs.declared.name_table.Entry.TheVariants as to
use Rattle.layer_tree.proofs.Following.{follow}
use Rattle.ov_wire.proofs.manifest.place.directory_at.Given as goal

abbrev pub invariant-loop-name : goal.invariant-loop-name
invariant-loop-name l = follow l.layer (to.Object l.key) (drop l.name-index l.names) ≡ entry_at l.layer (reverse l.names)
