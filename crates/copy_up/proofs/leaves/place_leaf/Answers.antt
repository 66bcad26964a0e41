use Rattle.std.proofs.Common.{◌≡◌, Some, is_some, reverse, subst, sym, ap}
use Rattle.merged_lookup.specs.declared.stack.Stack.{Stack}
use Rattle.merged_lookup.specs.Merged.{top_of, IsStackOf}
use Rattle.copy_up.proofs.Keeping.{failed-gains, failed-stays, then-layers, on-err}
use Rattle.copy_up.proofs.Copying.{copy-place, leaf-copied, thin-copied}
use Rattle.copy_up.proofs.leaves.place_leaf.Goals as goal

pub insert_leaf-requires-clause-place : goal.insert_leaf-requires-clause-place
insert_leaf-requires-clause-place c =
    let same = c.place_parents.ensures.same in
    let gains = c.place_parents.ensures.gains c.args.name.now in
    (reverse c.args.parents.now, copy-place c.args.layers.now c.place_parents.new.layers same c.args.name.now (reverse c.args.parents.now) gains c.args.place.layer c.args.place.key (Some c.requires.shown.0) c.requires.shown.1 c.requires.lower c.placed_or.result.now c.top-dir.result (subst (λ (s : Stack). IsStackOf c.place_parents.new.layers (reverse c.args.parents.now) s) (sym c.placed_or.ensures) c.in_ok-placed.ensures.stack) (subst (λ (s : Stack). (top_of s.places.items).layer ≡ 0) (sym c.placed_or.ensures) c.in_ok-placed.ensures.upper) c.top-dir.ensures)

pub returns-in_err-placed-clause-no_memory : goal.returns-in_err-placed-clause-no_memory
returns-in_err-placed-clause-no_memory c =
    let same = c.place_parents.ensures.same in
    let stays = c.place_parents.ensures.stays in
    let gains = c.place_parents.ensures.gains c.args.name.now in
    on-err _ c.from_residual.result (record { shown = same; mount = stays.mounts; beneath = gains })

pub returns-in_err-key-clause-no_memory : goal.returns-in_err-key-clause-no_memory
returns-in_err-key-clause-no_memory c =
    let same = c.place_parents.ensures.same in
    let stays = c.place_parents.ensures.stays in
    let gains = c.place_parents.ensures.gains c.args.name.now in
    on-err _ c.from_residual-in_err-key.result
    (failed-gains c.args.layers.now c.place_parents.new.layers c.insert_leaf.new.layers same stays c.insert_leaf.ensures.lowers c.in_err-key.ensures.unchanged c.in_err-key.ensures.same _ c.insert_leaf.ensures.keeps gains)

pub returns-in_err-key-clause-sound : goal.returns-in_err-key-clause-sound
returns-in_err-key-clause-sound c =
    let same = c.place_parents.ensures.same in
    let stays = c.place_parents.ensures.stays in
    (failed-stays c.args.layers.now c.place_parents.new.layers c.insert_leaf.new.layers same stays c.insert_leaf.ensures.lowers c.in_err-key.ensures.unchanged c.in_err-key.ensures.same c.insert_leaf.ensures.keeps).sound

pub insert_leaf-requires-clause-leaf : goal.insert_leaf-requires-clause-leaf
insert_leaf-requires-clause-leaf c = ap is_some c.requires.leaf.1

pub returns-clause-copied : goal.returns-clause-copied
returns-clause-copied c = λ i copy shown is full.
    let n = c.args.name.now in
    let q = reverse c.args.parents.now in
    let same = c.place_parents.ensures.same in
    let stays = c.place_parents.ensures.stays in
    let gains = c.place_parents.ensures.gains c.args.name.now in
    let placed = c.in_ok-key.ensures.placed q (copy-place c.args.layers.now c.place_parents.new.layers same n q gains c.args.place.layer c.args.place.key (Some c.requires.shown.0) c.requires.shown.1 c.requires.lower c.placed_or.result.now c.top-dir.result (subst (λ (s : Stack). IsStackOf c.place_parents.new.layers (reverse c.args.parents.now) s) (sym c.placed_or.ensures) c.in_ok-placed.ensures.stack) (subst (λ (s : Stack). (top_of s.places.items).layer ≡ 0) (sym c.placed_or.ensures) c.in_ok-placed.ensures.upper) c.top-dir.ensures) copy is in
    leaf-copied c.args.layers.now c.place_parents.new.layers c.insert_leaf.new.layers same n q gains c.insert_leaf.ensures.lowers c.in_ok-key.key copy placed stays.sound.layers stays.names c.insert_leaf.ensures.keeps c.args.place.layer c.args.place.key i shown c.requires.lower
    full c.in_ok-key.ensures.vacant c.in_ok-key.ensures.objects

pub returns-clause-sound : goal.returns-clause-sound
returns-clause-sound c =
    let n = c.args.name.now in
    let q = reverse c.args.parents.now in
    let same = c.place_parents.ensures.same in
    let sound = c.place_parents.ensures.stays.sound in
    let gains = c.place_parents.ensures.gains c.args.name.now in
    let placed = c.in_ok-key.ensures.placed q (copy-place c.args.layers.now c.place_parents.new.layers same n q gains c.args.place.layer c.args.place.key (Some c.requires.shown.0) c.requires.shown.1 c.requires.lower c.placed_or.result.now c.top-dir.result (subst (λ (s : Stack). IsStackOf c.place_parents.new.layers (reverse c.args.parents.now) s) (sym c.placed_or.ensures) c.in_ok-placed.ensures.stack) (subst (λ (s : Stack). (top_of s.places.items).layer ≡ 0) (sym c.placed_or.ensures) c.in_ok-placed.ensures.upper) c.top-dir.ensures) c.requires.leaf.0 c.requires.leaf.1 in
    record {
      layers = then-layers c.args.layers.now c.place_parents.new.layers c.insert_leaf.new.layers sound.layers c.insert_leaf.ensures.lowers c.insert_leaf.ensures.keeps;
      thin = thin-copied c.args.layers.now c.place_parents.new.layers c.insert_leaf.new.layers same n q gains c.insert_leaf.ensures.lowers c.in_ok-key.key c.requires.leaf.0 placed sound.thin;
    }
