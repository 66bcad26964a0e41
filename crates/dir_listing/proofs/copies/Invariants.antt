use Rattle.std.proofs.Common.{◌≡◌, take, map}
use Rattle.dir_listing.specs.declared.bound.Bound.{Bound}
use Rattle.dir_listing.proofs.copies.Given as goal

-- the names so far are copied
abbrev pub invariant-loop-bound : goal.invariant-loop-bound
invariant-loop-bound l = l.names.items ≡ map (λ (b : Bound). b.name.now) (take l.bound-index l.bounds)
