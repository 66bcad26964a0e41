use Rattle.std.proofs.Common.{sym, subst}
use Rattle.std.specs.Ordering.{nat_cmp}
use Rattle.std.specs.Cmp.Lexicographic.{slice_cmp}
use Rattle.std.specs.List.Sorted.{IsStrictlySortedBy}
use Rattle.layer_tree.proofs.TableLemmas.{none_sorted}
use Rattle.layer_tree.proofs.layer.Layer.names.Goals as goal

pub returns-in_default-clause-sorted : goal.returns-in_default-clause-sorted
returns-in_default-clause-sorted c = subst (IsStrictlySortedBy (slice_cmp nat_cmp)) (sym c.new.ensures.items) none_sorted
