use Rattle.std.proofs.Common.{◌≡◌, true, [], ◌∷◌, reverse, refl, sym, subst}
use Rattle.std.proofs.lemmas.Result.{IfOk-weaker, on_err_weaker}
use Rattle.plain_model.specs.Layers.{Path, is_directory, shows}
use Rattle.merged_lookup.specs.declared.stack.Stack.{Stack}
use Rattle.merged_lookup.specs.Merged.{layers_of, IsStackOf}
use Rattle.copy_up.specs.Showing.{GainsParents}
use Rattle.copy_up.proofs.Frames.{gains-further, gains-then, gains-unchanged}
use Rattle.copy_up.proofs.Keeping.{directory-same, on-err, same-then, stays-then}
use Rattle.copy_up.proofs.altering.place_at.Goals as goal

pub place_parent-requires-clause-shown : goal.place_parent-requires-clause-shown
place_parent-requires-clause-shown c =
    let q = reverse c.in-Some.parents.now in
    (q, (subst (λ (s : Stack). IsStackOf c.place_parents.new.layers (reverse c.in-Some.parents.now) s) (sym c.placed_or.ensures) c.in_ok-placed.ensures.stack), directory-same c.args.layers.now c.place_parents.new.layers (c.in-Some.name.now ∷ q) c.place_parents.ensures.same (subst (λ (x : Path). is_directory (shows 0 (layers_of c.args.layers.now) x) ≡ true) c.in-Some.ensures c.requires.shown))

pub returns-clause-same : goal.returns-clause-same
returns-clause-same c = same-then c.args.layers.now c.place_parents.new.layers c.place_parent.new.layers c.place_parents.ensures.same c.place_parent.ensures.same

pub returns-clause-stack : goal.returns-clause-stack
returns-clause-stack c = IfOk-weaker c.place_parent.result _ _ (λ (s : Stack) h. subst (λ (x : Path). IsStackOf c.place_parent.new.layers x s) (sym c.in-Some.ensures) (h (reverse c.in-Some.parents.now) (subst (λ (s : Stack). IsStackOf c.place_parents.new.layers (reverse c.in-Some.parents.now) s) (sym c.placed_or.ensures) c.in_ok-placed.ensures.stack))) c.place_parent.ensures.stack

pub returns-clause-gains : goal.returns-clause-gains
returns-clause-gains c = λ n.
    let q = reverse c.in-Some.parents.now in
    let p = c.in-Some.name.now ∷ q in
    subst (λ (x : Path). GainsParents c.args.layers.now c.place_parent.new.layers (n ∷ x)) (sym c.in-Some.ensures)
    (gains-then c.args.layers.now c.place_parents.new.layers c.place_parent.new.layers (n ∷ p) c.place_parents.ensures.same
    (gains-further c.args.layers.now c.place_parents.new.layers n p (c.place_parents.ensures.gains c.in-Some.name.now))
    (c.place_parent.ensures.gains q (n ∷ p) (subst (λ (s : Stack). IsStackOf c.place_parents.new.layers (reverse c.in-Some.parents.now) s) (sym c.placed_or.ensures) c.in_ok-placed.ensures.stack) (n, [], refl)))

pub returns-clause-proper : goal.returns-clause-proper
returns-clause-proper c =
    let q = reverse c.in-Some.parents.now in
    let p = c.in-Some.name.now ∷ q in
    let kept = (c.place_parent.ensures.gains q ([] ∷ p) (subst (λ (s : Stack). IsStackOf c.place_parents.new.layers (reverse c.in-Some.parents.now) s) (sym c.placed_or.ensures) c.in_ok-placed.ensures.stack) ([], [], refl)).objects in
    on_err_weaker c.place_parent.result (λ same.
    subst (λ (x : Path). GainsParents c.args.layers.now c.place_parent.new.layers x) (sym c.in-Some.ensures)
    (gains-then c.args.layers.now c.place_parents.new.layers c.place_parent.new.layers p c.place_parents.ensures.same (c.place_parents.ensures.gains c.in-Some.name.now)
    (gains-unchanged c.place_parents.new.layers c.place_parent.new.layers p c.place_parent.ensures.same.lowers same kept))) c.place_parent.ensures.unchanged

pub returns-in_err-placed-clause-gains : goal.returns-in_err-placed-clause-gains
returns-in_err-placed-clause-gains c = λ n.
    subst (λ (x : Path). GainsParents c.args.layers.now c.place_parents.new.layers (n ∷ x)) (sym c.in-Some.ensures)
    (gains-further c.args.layers.now c.place_parents.new.layers n (c.in-Some.name.now ∷ reverse c.in-Some.parents.now) (c.place_parents.ensures.gains c.in-Some.name.now))

pub returns-in_err-placed-clause-proper : goal.returns-in_err-placed-clause-proper
returns-in_err-placed-clause-proper c =
    on-err _ c.from_residual.result
    (subst (λ (x : Path). GainsParents c.args.layers.now c.place_parents.new.layers x) (sym c.in-Some.ensures) (c.place_parents.ensures.gains c.in-Some.name.now))

pub returns-clause-stays : goal.returns-clause-stays
returns-clause-stays c = stays-then c.args.layers.now c.place_parents.new.layers c.place_parent.new.layers c.place_parents.ensures.stays c.place_parent.ensures.stays
