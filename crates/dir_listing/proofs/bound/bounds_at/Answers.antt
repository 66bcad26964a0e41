use Rattle.std.proofs.Common.{sym, subst}
use Rattle.std.specs.List.Sorted.{IsStrictlySortedBy}
use Rattle.dir_listing.specs.Bound.{by_name}
use Rattle.dir_listing.proofs.Runs.{none-rise}
use Rattle.dir_listing.proofs.bound.bounds_at.Goals as goal

pub returns-in_default-clause-sorted : goal.returns-in_default-clause-sorted
returns-in_default-clause-sorted c = subst (IsStrictlySortedBy by_name) (sym c.new.ensures.items) none-rise
