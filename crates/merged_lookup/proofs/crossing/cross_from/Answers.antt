use Rattle.std.proofs.Common.{◌≡◌, ◌++◌, Some, length, reverse, slice_get, arith, sym, ap, ◌∙◌}
use Rattle.merged_lookup.specs.Merged.{place_in}
use Rattle.merged_lookup.specs.Numbered.{row}
use Rattle.merged_lookup.specs.Descent.{places_from}
use Rattle.merged_lookup.specs.Spelling.{names_of}
use Rattle.merged_lookup.proofs.Walking.{added-some, added-none, length-added, walk-ends, walk-goes-on}
use Rattle.merged_lookup.proofs.crossing.cross_from.Goals.{in-Some-dir, in_default-dir}
use Rattle.merged_lookup.proofs.crossing.cross_from.Goals as goal

pub returns-then-crossing : goal.returns-then-crossing
returns-then-crossing c =
    let at : slice_get (row c.args.layers) c.loop-index.index ≡ Some c.in-Some.layer.now = sym c.in-Some.ensures in
    let added : c.match-crossing.places.items ≡ c.loop-index.places.items ++ place_in c.loop-index.index c.cross-crossing.result.dir =
    elim c.match-crossing.branch [
      | in-Some-dir w ↦ added-some c.loop-index.places.items c.loop-index.index c.cross-crossing.result.dir w.in-Some-dir.key c.match-crossing.places.items w.in-Some-dir.is (ap (λ z. z.items) w.places-is ∙ w.push.ensures.items)
      | in_default-dir w ↦ added-none c.loop-index.places.items c.loop-index.index c.cross-crossing.result.dir c.match-crossing.places.items w.in_default-dir.is (ap (λ z. z.items) w.places-is)
    ] in
    walk-ends c.loop-index.index (row c.args.layers) c.in-Some.layer.now (reverse (names_of c.loop-index.spelling)) at c.loop-index.places.items (places_from c.args.first (row c.args.layers) (reverse c.args.names.now)) c.loop-index.invariant.so_far c.cross-crossing.result.dir c.cross-crossing.ensures.dir c.match-crossing.places.items added c.cross-crossing.result.cut c.cross-crossing.ensures.cut c.if-crossing.true

pub loop-index-preserved : goal.loop-index-preserved
loop-index-preserved c =
    let at : slice_get (row c.args.layers) c.loop-index.index ≡ Some c.in-Some.layer.now = sym c.in-Some.ensures in
    let added : c.match-crossing.places.items ≡ c.loop-index.places.items ++ place_in c.loop-index.index c.cross-crossing.result.dir =
    elim c.match-crossing.branch [
      | in-Some-dir w ↦ added-some c.loop-index.places.items c.loop-index.index c.cross-crossing.result.dir w.in-Some-dir.key c.match-crossing.places.items w.in-Some-dir.is (ap (λ z. z.items) w.places-is ∙ w.push.ensures.items)
      | in_default-dir w ↦ added-none c.loop-index.places.items c.loop-index.index c.cross-crossing.result.dir c.match-crossing.places.items w.in_default-dir.is (ap (λ z. z.items) w.places-is)
    ] in
    record {
      so_far = walk-goes-on c.loop-index.index (row c.args.layers) c.in-Some.layer.now (reverse (names_of c.loop-index.spelling)) at c.loop-index.places.items (places_from c.args.first (row c.args.layers) (reverse c.args.names.now)) c.loop-index.invariant.so_far c.cross-crossing.result.dir c.cross-crossing.ensures.dir c.match-crossing.places.items added c.cross-crossing.result.cut (reverse (names_of c.cross-crossing.result.next)) c.cross-crossing.ensures.cut c.if-crossing.false (c.cross-crossing.ensures.next c.if-crossing.false);
      few = omega (arith, ap length added, length-added c.loop-index.places.items c.loop-index.index c.cross-crossing.result.dir, c.loop-index.invariant.few);
      room = omega (arith, c.cross-crossing.ensures.first, c.loop-index.invariant.room);
      row = c.cross-crossing.ensures.row;
    }
