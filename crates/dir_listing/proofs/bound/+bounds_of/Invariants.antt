use Rattle.std.proofs.Common.{length}
use Rattle.dir_listing.proofs.bound.+bounds_of.Given as goal

abbrev pub decreases-bounds_of : goal.decreases-bounds_of
decreases-bounds_of l = length l.places.now
