use Rattle.std.proofs.Common.{◌≡◌, ◌∷◌, List, reverse, sym, subst}
use Rattle.plain_model.specs.Layers.{Layer}
use Rattle.plain_model.specs.Tree.{IsThin}
use Rattle.layer_tree.specs.Tree.{layer_of}
use Rattle.merged_lookup.specs.Merged.{top_of, IsStackOf}
use Rattle.merged_lookup.specs.declared.stack.Stack.{Stack}
use Rattle.copy_up.proofs.Keeping.{then-layers, lowers-same, failed-gains, failed-stays, on-err}
use Rattle.make_remove.proofs.Unnaming.{bare-held, unnames}
use Rattle.make_remove.proofs.Removing.{top-at, taken-thin, takes-name}
use Rattle.make_remove.proofs.removals.take_away.Goals as goal

pub remove_name-requires-clause-dir : goal.remove_name-requires-clause-dir
remove_name-requires-clause-dir c = (top-at c.place_parents.new.layers (reverse c.args.parents.now) c.placed_or-parent.result.now c.top-dir.result c.lawful.ensures.tree (subst (IsStackOf c.place_parents.new.layers (reverse c.args.parents.now)) (sym c.placed_or-parent.ensures) c.in_ok-placed.ensures.stack) (subst (λ (s : Stack). (top_of s.places.items).layer ≡ 0) (sym c.placed_or-parent.ensures) c.in_ok-placed.ensures.upper) c.top-dir.ensures).directory

pub remove_name-requires-clause-bare : goal.remove_name-requires-clause-bare
remove_name-requires-clause-bare c =
    let q = reverse c.args.parents.now in
    bare-held c.place_parents.new.layers q c.top-dir.result.key c.args.name.now c.lawful.ensures.tree
    (top-at c.place_parents.new.layers (reverse c.args.parents.now) c.placed_or-parent.result.now c.top-dir.result c.lawful.ensures.tree (subst (IsStackOf c.place_parents.new.layers (reverse c.args.parents.now)) (sym c.placed_or-parent.ensures) c.in_ok-placed.ensures.stack) (subst (λ (s : Stack). (top_of s.places.items).layer ≡ 0) (sym c.placed_or-parent.ensures) c.in_ok-placed.ensures.upper) c.top-dir.ensures).key
    (λ m. c.place_parents.ensures.same.absent (m ∷ c.args.name.now ∷ q) (c.requires.bare m))

pub returns-in_err-key-clause-no_memory : goal.returns-in_err-key-clause-no_memory
returns-in_err-key-clause-no_memory c =
    let p = c.place_parents.ensures in
    let at = top-at c.place_parents.new.layers (reverse c.args.parents.now) c.placed_or-parent.result.now c.top-dir.result c.lawful.ensures.tree (subst (IsStackOf c.place_parents.new.layers (reverse c.args.parents.now)) (sym c.placed_or-parent.ensures) c.in_ok-placed.ensures.stack) (subst (λ (s : Stack). (top_of s.places.items).layer ≡ 0) (sym c.placed_or-parent.ensures) c.in_ok-placed.ensures.upper) c.top-dir.ensures in
    on-err _ c.from_residual-in_err-key.result
    (failed-gains c.args.layers.now c.place_parents.new.layers c.remove_name.new.layers p.same p.stays c.remove_name.ensures.lowers c.in_err-key.ensures.unchanged c.in_err-key.ensures.same _ (c.remove_name.ensures.keeps (reverse c.args.parents.now) at.key) (p.gains c.args.name.now))

pub returns-clause-takes : goal.returns-clause-takes
returns-clause-takes c =
    let p = c.place_parents.ensures in
    let q = reverse c.args.parents.now in
    let at = top-at c.place_parents.new.layers (reverse c.args.parents.now) c.placed_or-parent.result.now c.top-dir.result c.lawful.ensures.tree (subst (IsStackOf c.place_parents.new.layers (reverse c.args.parents.now)) (sym c.placed_or-parent.ensures) c.in_ok-placed.ensures.stack) (subst (λ (s : Stack). (top_of s.places.items).layer ≡ 0) (sym c.placed_or-parent.ensures) c.in_ok-placed.ensures.upper) c.top-dir.ensures in
    takes-name c.args.layers.now c.place_parents.new.layers _ q c.args.name.now c.lowers_show-covered.result p.same p.stays.sound.layers p.stays.names (p.gains c.args.name.now) c.remove_name.ensures.lowers c.requires.bare
    (c.lowers_show-covered.ensures q (subst (IsStackOf c.place_parents.new.layers (reverse c.args.parents.now)) (sym c.placed_or-parent.ensures) c.in_ok-placed.ensures.stack)) (c.in_ok-key.ensures.takes q at.key) (c.remove_name.ensures.keeps q at.key)

pub returns-clause-unnames : goal.returns-clause-unnames
returns-clause-unnames c =
    let q = reverse c.args.parents.now in
    let at = top-at c.place_parents.new.layers (reverse c.args.parents.now) c.placed_or-parent.result.now c.top-dir.result c.lawful.ensures.tree (subst (IsStackOf c.place_parents.new.layers (reverse c.args.parents.now)) (sym c.placed_or-parent.ensures) c.in_ok-placed.ensures.stack) (subst (λ (s : Stack). (top_of s.places.items).layer ≡ 0) (sym c.placed_or-parent.ensures) c.in_ok-placed.ensures.upper) c.top-dir.ensures in
    unnames c.args.layers.now c.place_parents.new.layers _ q c.top-dir.result.key c.args.name.now c.lawful.ensures.tree (c.place_parents.ensures.gains c.args.name.now) at.key
    c.in_ok-key.ensures.objects c.in_ok-key.ensures.fewer c.in_ok-key.key c.in_ok-key.ensures.released c.in_ok-key.ensures.nameless

pub returns-clause-sound : goal.returns-clause-sound
returns-clause-sound c =
    let q = reverse c.args.parents.now in
    let at = top-at c.place_parents.new.layers (reverse c.args.parents.now) c.placed_or-parent.result.now c.top-dir.result c.lawful.ensures.tree (subst (IsStackOf c.place_parents.new.layers (reverse c.args.parents.now)) (sym c.placed_or-parent.ensures) c.in_ok-placed.ensures.stack) (subst (λ (s : Stack). (top_of s.places.items).layer ≡ 0) (sym c.placed_or-parent.ensures) c.in_ok-placed.ensures.upper) c.top-dir.ensures in
    record {
      layers = then-layers c.args.layers.now c.place_parents.new.layers c.remove_name.new.layers c.place_parents.ensures.stays.sound.layers c.remove_name.ensures.lowers (c.remove_name.ensures.keeps q at.key);
      thin = λ h.
          subst (λ (Ls : List Layer). IsThin (layer_of c.remove_name.new.layers.upper) Ls) (sym (lowers-same c.place_parents.new.layers c.remove_name.new.layers c.remove_name.ensures.lowers))
          (taken-thin c.place_parents.new.layers (layer_of c.remove_name.new.layers.upper) q c.args.name.now c.lowers_show-covered.result (c.lowers_show-covered.ensures q (subst (IsStackOf c.place_parents.new.layers (reverse c.args.parents.now)) (sym c.placed_or-parent.ensures) c.in_ok-placed.ensures.stack)) (c.in_ok-key.ensures.takes q at.key) (c.place_parents.ensures.stays.sound.thin h));
    }

pub returns-in_err-placed-clause-no_memory : goal.returns-in_err-placed-clause-no_memory
returns-in_err-placed-clause-no_memory c = on-err _ c.from_residual.result (record { shown = c.place_parents.ensures.same; mount = c.place_parents.ensures.stays.mounts; beneath = c.place_parents.ensures.gains c.args.name.now })

pub returns-in_err-key-clause-sound : goal.returns-in_err-key-clause-sound
returns-in_err-key-clause-sound c =
    let p = c.place_parents.ensures in
    let at = top-at c.place_parents.new.layers (reverse c.args.parents.now) c.placed_or-parent.result.now c.top-dir.result c.lawful.ensures.tree (subst (IsStackOf c.place_parents.new.layers (reverse c.args.parents.now)) (sym c.placed_or-parent.ensures) c.in_ok-placed.ensures.stack) (subst (λ (s : Stack). (top_of s.places.items).layer ≡ 0) (sym c.placed_or-parent.ensures) c.in_ok-placed.ensures.upper) c.top-dir.ensures in
    (failed-stays c.args.layers.now c.place_parents.new.layers c.remove_name.new.layers p.same p.stays c.remove_name.ensures.lowers c.in_err-key.ensures.unchanged c.in_err-key.ensures.same (c.remove_name.ensures.keeps (reverse c.args.parents.now) at.key)).sound
