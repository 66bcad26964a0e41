use Rattle.std.proofs.Common.{◌≡◌, ◌≤◌, ◌<◌, ◌∷◌, ◌++◌, ◌+◌, [], ℕ, List, Some, length, take, drop, get_or, reverse, arith, sym, ◌∙◌, ap}
use Rattle.std.proofs.lemmas.List.{take_more}
use Rattle.plain_model.specs.Layers.{Name}
use Rattle.ov_base.specs.declared.place.Place.{Place}
use Rattle.merged_lookup.specs.Merged.{trees, layers_of, places_at, ShowsDirectory}
use Rattle.merged_lookup.specs.Trails.{IsUppers}
use Rattle.merged_lookup.proofs.Descending.{reverse-more}
use Rattle.merged_lookup.proofs.Looking.{step-directory, step-fault, fault-at, fault-next}
use Rattle.merged_lookup.proofs.Trails.{trail-leads-on, first-of, first-uppers}
use Rattle.merged_lookup.proofs.layers.Layers.go_down.Goals as goal

pub enter-inode-requires : goal.enter-inode-requires
enter-inode-requires c =
    let before : List Name = take c.loop-index.index c.args.names.now in
    trail-leads-on c.args.self.now.upper c.args.self.now.lowers.items c.loop-index.places.items before c.loop-index.invariant.places
    c.loop-index.trail c.loop-index.invariant.trail

pub returns-then-is_empty-clause-refused : goal.returns-then-is_empty-clause-refused
returns-then-is_empty-clause-refused c =
    let before = reverse (take c.loop-index.index c.args.names.now) in
    let few : length (trees c.args.self.now) ≤ 17 = omega (arith, c.args.self.now.few_lowers) in
    let none : length c.enter-inode.new.places.items ≡ 0 = grind arith in
    fault-at c.args.self.now c.args.names.now c.loop-index.index c.index-names-index.result c.fault_at.result c.loop-index-test.true c.index-names-index.is c.loop-index.invariant.way
    (step-fault c.args.self.now c.loop-index.places.items c.index-names-index.result few c.enter-inode.new.places.items c.enter-inode.ensures.reached before c.loop-index.invariant.places c.enter-inode.result none c.enter-inode.ensures.inode ∙ ap Some (sym c.fault_at.ensures))

pub loop-index-preserved : goal.loop-index-preserved
loop-index-preserved c =
    let before = reverse (take c.loop-index.index c.args.names.now) in
    let few : length (trees c.args.self.now) ≤ 17 = omega (arith, c.args.self.now.few_lowers) in
    let some : 0 < length c.enter-inode.new.places.items = grind arith in
    let shown : ShowsDirectory c.args.self.now (c.index-names-index.result ∷ before) c.enter-inode.new.places.items = step-directory c.args.self.now c.loop-index.places.items c.index-names-index.result few c.enter-inode.new.places.items c.enter-inode.ensures.reached before c.loop-index.invariant.places some in
    let names : List Name = c.args.names.now in
    let i : ℕ = c.loop-index.index in
    let n : Name = c.index-names-index.result in
    let reached : List Place = c.enter-inode.new.places.items in
    let longer : take (i + 1) names ≡ take i names ++ n ∷ [] =
    take_more names i n c.loop-index-test.true ∙ ap (λ m. take i names ++ m ∷ []) (sym c.index-names-index.is) in
    let none : Place = record { layer = 0; key = 0 } in
    let first : Place = get_or c.as_slice.result.now 0 none in
    let top : reached ≡ first ∷ drop 1 reached = first-of reached first none some (ap (λ z. get_or z 0 none) c.as_slice.ensures.value) in
    let uppers : IsUppers c.args.self.now.upper (n ∷ before) first =
    first-uppers c.args.self.now.upper c.args.self.now.lowers.items reached (n ∷ before) shown.places first (drop 1 reached) top in
    record {
      way = fault-next c.args.self.now c.args.names.now c.loop-index.index c.index-names-index.result c.enter-inode.new.places.items c.loop-index-test.true c.index-names-index.is c.loop-index.invariant.way shown;
      places = shown.places ∙ sym (ap (places_at 0 (layers_of c.args.self.now)) (reverse-more c.args.names.now c.loop-index.index c.index-names-index.result c.loop-index-test.true c.index-names-index.is));
      some = some;
      trail = c.trail_on-trail.ensures (take i names) n longer uppers c.loop-index.invariant.trail;
    }
