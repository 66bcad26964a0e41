use Rattle.std.proofs.Common.{sym, ap, ◌∙◌, [], ◌∷◌, take, reverse}
use Rattle.merged_lookup.specs.Merged.{places_at, layers_of}
use Rattle.merged_lookup.proofs.Descending.{reverse-more}
use Rattle.copy_up.proofs.Frames.{gains-then, gains-unchanged}
use Rattle.copy_up.proofs.Keeping.{on-err, is-parent, same-then, stays-then, directory-same, way-shows}
use Rattle.copy_up.proofs.Needing.{is-proper}
use Rattle.copy_up.proofs.parents.place_from_root.Goals as goal

pub place_parent-requires-clause-shown : goal.place_parent-requires-clause-shown
place_parent-requires-clause-shown c =
    let p = reverse (take c.loop-name.name-index c.args.names.now) in
    (p, c.loop-name.invariant.1, directory-same c.args.layers.now c.loop-name.layers (c.name-item.result ∷ p) c.loop-name.invariant.0 (way-shows c.args.layers.now c.args.names.now c.loop-name.name-index c.name-item.result c.loop-name-test.true c.name-item.is c.requires))

pub loop-name-preserved : goal.loop-name-preserved
loop-name-preserved c =
    let p = reverse (take c.loop-name.name-index c.args.names.now) in (
      same-then c.args.layers.now c.loop-name.layers c.place_parent.new.layers c.loop-name.invariant.0 c.place_parent.ensures.same,
      record { places = (c.in_ok-stack.ensures.stack p c.loop-name.invariant.1).places ∙ ap (places_at 0 (layers_of c.place_parent.new.layers)) (sym (reverse-more c.args.names.now c.loop-name.name-index c.name-item.result c.loop-name-test.true c.name-item.is)) },
      c.in_ok-stack.ensures.upper,
      stays-then c.args.layers.now c.loop-name.layers c.place_parent.new.layers c.loop-name.invariant.3 c.place_parent.ensures.stays,
      λ n. gains-then c.args.layers.now c.loop-name.layers c.place_parent.new.layers (n ∷ reverse c.args.names.now) c.loop-name.invariant.0 (c.loop-name.invariant.4 n) (c.place_parent.ensures.gains p (n ∷ reverse c.args.names.now) c.loop-name.invariant.1 (is-parent c.args.names.now c.loop-name.name-index c.name-item.result n c.loop-name-test.true c.name-item.is)),
      λ more. gains-then c.args.layers.now c.loop-name.layers c.place_parent.new.layers (reverse c.args.names.now) c.loop-name.invariant.0 (c.loop-name.invariant.5 c.loop-name-test.true) (c.place_parent.ensures.gains p (reverse c.args.names.now) c.loop-name.invariant.1 (is-proper c.args.names.now c.loop-name.name-index c.name-item.result more c.name-item.is)),
    )

pub returns-in_err-stack-clause-stays : goal.returns-in_err-stack-clause-stays
returns-in_err-stack-clause-stays c = stays-then c.args.layers.now c.loop-name.layers c.place_parent.new.layers c.loop-name.invariant.3 c.place_parent.ensures.stays

pub returns-in_err-stack-clause-gains : goal.returns-in_err-stack-clause-gains
returns-in_err-stack-clause-gains c = λ n.
    let p = reverse (take c.loop-name.name-index c.args.names.now) in
    gains-then c.args.layers.now c.loop-name.layers c.place_parent.new.layers (n ∷ reverse c.args.names.now) c.loop-name.invariant.0 (c.loop-name.invariant.4 n) (c.place_parent.ensures.gains p (n ∷ reverse c.args.names.now) c.loop-name.invariant.1 (is-parent c.args.names.now c.loop-name.name-index c.name-item.result n c.loop-name-test.true c.name-item.is))

pub returns-in_err-stack-clause-proper : goal.returns-in_err-stack-clause-proper
returns-in_err-stack-clause-proper c =
    let p = reverse (take c.loop-name.name-index c.args.names.now) in
    let kept = (c.place_parent.ensures.gains p ([] ∷ reverse c.args.names.now) c.loop-name.invariant.1 (is-parent c.args.names.now c.loop-name.name-index c.name-item.result [] c.loop-name-test.true c.name-item.is)).objects in
    on-err _ c.from_residual.result
    (gains-then c.args.layers.now c.loop-name.layers c.place_parent.new.layers (reverse c.args.names.now) c.loop-name.invariant.0 (c.loop-name.invariant.5 c.loop-name-test.true)
    (gains-unchanged c.loop-name.layers c.place_parent.new.layers _ c.place_parent.ensures.same.lowers c.in_err-stack.ensures.unchanged kept))

pub returns-in_err-stack-clause-same : goal.returns-in_err-stack-clause-same
returns-in_err-stack-clause-same c = same-then c.args.layers.now c.loop-name.layers c.place_parent.new.layers c.loop-name.invariant.0 c.place_parent.ensures.same
