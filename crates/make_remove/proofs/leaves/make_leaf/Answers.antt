use Rattle.std.proofs.Common.{◌≡◌, None, reverse, refl, sym, subst}
use Rattle.merged_lookup.specs.Merged.{top_of, IsStackOf}
use Rattle.merged_lookup.specs.declared.stack.Stack.{Stack}
use Rattle.copy_up.specs.Showing.{GainsParents}
use Rattle.copy_up.proofs.Keeping.{then-layers, failed-gains, failed-stays, on-err}
use Rattle.copy_up.proofs.Copying.{leaf_of}
use Rattle.make_remove.proofs.Making.{absent-place}
use Rattle.make_remove.proofs.LeafSteps.{leaf-made, leaf-thin}
use Rattle.make_remove.proofs.leaves.make_leaf.Goals as goal

pub insert_leaf-requires-clause-place : goal.insert_leaf-requires-clause-place
insert_leaf-requires-clause-place c = (reverse c.in-Some.parents.now, absent-place c.args.layers.now c.place_parents.new.layers c.args.path.now (reverse c.in-Some.parents.now) c.in-Some.name.now c.placed_or.result.now c.top-dir.result c.in-Some.ensures c.place_parents.ensures.same c.requires.absent (subst (IsStackOf c.place_parents.new.layers (reverse c.in-Some.parents.now)) (sym c.placed_or.ensures) c.in_ok-placed.ensures.stack) (subst (λ (s : Stack). (top_of s.places.items).layer ≡ 0) (sym c.placed_or.ensures) c.in_ok-placed.ensures.upper) c.top-dir.ensures)

pub returns-in_err-key-clause-no_memory : goal.returns-in_err-key-clause-no_memory
returns-in_err-key-clause-no_memory c =
    let p = c.place_parents.ensures in
    on-err _ c.from_residual-in_err-key.result
    (failed-gains c.args.layers.now c.place_parents.new.layers c.insert_leaf.new.layers p.same p.stays c.insert_leaf.ensures.lowers c.in_err-key.ensures.unchanged c.in_err-key.ensures.same c.args.path.now c.insert_leaf.ensures.keeps (subst (GainsParents c.args.layers.now c.place_parents.new.layers) (sym c.in-Some.ensures) (p.gains c.in-Some.name.now)))

pub returns-clause-made : goal.returns-clause-made
returns-clause-made c =
    let q = reverse c.in-Some.parents.now in
    let placed = c.in_ok-key.ensures.placed q (absent-place c.args.layers.now c.place_parents.new.layers c.args.path.now (reverse c.in-Some.parents.now) c.in-Some.name.now c.placed_or.result.now c.top-dir.result c.in-Some.ensures c.place_parents.ensures.same c.requires.absent (subst (IsStackOf c.place_parents.new.layers (reverse c.in-Some.parents.now)) (sym c.placed_or.ensures) c.in_ok-placed.ensures.stack) (subst (λ (s : Stack). (top_of s.places.items).layer ≡ 0) (sym c.placed_or.ensures) c.in_ok-placed.ensures.upper) c.top-dir.ensures) (leaf_of c.args.content None c.args.attributes) refl in
    leaf-made c.args.layers.now c.place_parents.new.layers _ c.place_parents.ensures.same c.place_parents.ensures.stays.sound.layers c.place_parents.ensures.stays.names c.insert_leaf.ensures.lowers c.insert_leaf.ensures.keeps c.args.path.now c.in-Some.name.now q c.in_ok-key.key c.args.content c.args.attributes c.in-Some.ensures c.requires.absent placed (c.place_parents.ensures.gains c.in-Some.name.now) c.in_ok-key.ensures.vacant c.in_ok-key.ensures.objects

pub returns-clause-sound : goal.returns-clause-sound
returns-clause-sound c =
    let q = reverse c.in-Some.parents.now in
    let placed = c.in_ok-key.ensures.placed q (absent-place c.args.layers.now c.place_parents.new.layers c.args.path.now (reverse c.in-Some.parents.now) c.in-Some.name.now c.placed_or.result.now c.top-dir.result c.in-Some.ensures c.place_parents.ensures.same c.requires.absent (subst (IsStackOf c.place_parents.new.layers (reverse c.in-Some.parents.now)) (sym c.placed_or.ensures) c.in_ok-placed.ensures.stack) (subst (λ (s : Stack). (top_of s.places.items).layer ≡ 0) (sym c.placed_or.ensures) c.in_ok-placed.ensures.upper) c.top-dir.ensures) (leaf_of c.args.content None c.args.attributes) refl in
    record {
      layers = then-layers c.args.layers.now c.place_parents.new.layers c.insert_leaf.new.layers c.place_parents.ensures.stays.sound.layers c.insert_leaf.ensures.lowers c.insert_leaf.ensures.keeps;
      thin = leaf-thin c.args.layers.now c.place_parents.new.layers c.insert_leaf.new.layers c.place_parents.ensures.same c.place_parents.ensures.stays.sound.layers c.place_parents.ensures.stays.names c.insert_leaf.ensures.lowers c.insert_leaf.ensures.keeps c.args.path.now c.in-Some.name.now q c.in_ok-key.key c.args.content c.args.attributes c.in-Some.ensures c.requires.absent placed c.place_parents.ensures.stays.sound.thin;
    }

pub returns-in_err-placed-clause-no_memory : goal.returns-in_err-placed-clause-no_memory
returns-in_err-placed-clause-no_memory c = on-err _ c.from_residual.result (record { shown = c.place_parents.ensures.same; mount = c.place_parents.ensures.stays.mounts; beneath = subst (GainsParents c.args.layers.now c.place_parents.new.layers) (sym c.in-Some.ensures) (c.place_parents.ensures.gains c.in-Some.name.now) })

pub returns-in_err-key-clause-sound : goal.returns-in_err-key-clause-sound
returns-in_err-key-clause-sound c =
    let p = c.place_parents.ensures in
    (failed-stays c.args.layers.now c.place_parents.new.layers c.insert_leaf.new.layers p.same p.stays c.insert_leaf.ensures.lowers c.in_err-key.ensures.unchanged c.in_err-key.ensures.same c.insert_leaf.ensures.keeps).sound
