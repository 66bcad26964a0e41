-- The most steps of a call, by arithmetic.
use Rattle.std.proofs.Common.{arith}
use Rattle.plain_model.specs.Bounds.{LawOfBounds}

-- a call within its bounds finishes in its 66,049th step at the latest
pub law_of_bounds : LawOfBounds
law_of_bounds w b =
    let placed = b.placed in
    let begun = b.begun in
    let copied = b.copied in
    omega arith
