use Rattle.std.proofs.Common.{subst, sym}
use Rattle.watch_table.specs.Watched.{IsIndexOf}
use Rattle.watch_table.proofs.Indexing.{index-none}
use Rattle.watch_table.proofs.table.WatchTable.new.Goals as goal

pub invariant_of-result : goal.invariant_of-result
invariant_of-result g c = subst (λ es. IsIndexOf es c.new-2.result) (sym c.new.ensures) (index-none c.new-2.result c.new-2.ensures)
