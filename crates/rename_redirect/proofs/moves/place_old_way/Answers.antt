use Rattle.std.proofs.Common.{unwrap_or, sym, ◌∙◌, subst, arith}
use Rattle.merged_lookup.specs.Merged.{parent, IsStackOf}
use Rattle.copy_up.specs.Showing.{GainsParents}
use Rattle.copy_up.proofs.Keeping.{same-then, stays-then}
use Rattle.rename_redirect.proofs.Given.{gains-first}
use Rattle.rename_redirect.proofs.Going.{not-root}
use Rattle.rename_redirect.proofs.Shown.{parents-same, parent-there, stack-kept}
use Rattle.rename_redirect.proofs.moves.place_old_way.Goals as goal
use Rattle.rename_redirect.proofs.moves.place_old_way.Goals.{in_default-parent_of-via-in-Ok+in_default, in_default-parent_of-via-in_default}

pub unreachable-requires : goal.unreachable-requires
unreachable-requires c = not-root c.args.old.now c.args.new.now c.requires.out c.in_default.ensures

pub returns-in_err-placed-clause-gains : goal.returns-in_err-placed-clause-gains
returns-in_err-placed-clause-gains c =
    let p = c.place_parents.ensures in
    let l0 = c.args.layers.now in
    let l1 = c.place_parents.new.layers in
    let gains = subst (GainsParents l0 l1) (sym c.in-Some.ensures) (p.gains c.in-Some.field-0-0.now) in
    gains-first l0 l1 c.args.old.now c.args.new.now p.same gains

pub unreachable-requires-in_default-parent_of : goal.unreachable-requires-in_default-parent_of
unreachable-requires-in_default-parent_of c =
    let p = c.place_parents.ensures in
    let found = parent-there c.place_parents.new.layers c.args.new.now c.parent_of.result c.parent_of.ensures.found c.parent_of.ensures.refused
    (parents-same c.args.layers.now c.place_parents.new.layers p.same c.args.new.now c.requires.parents) (not-root c.args.new.now c.args.old.now c.requires.within) in
    elim c.in_default-parent_of.branch [
      | in_default-parent_of-via-in-Ok+in_default w ↦ let same = sym found.1 ∙ w.in_default-parent_of.is in grind arith
      | in_default-parent_of-via-in_default w ↦ let same = sym found.1 ∙ w.in_default-parent_of.is in cc
    ]

pub returns-in_err-onto-clause-stays : goal.returns-in_err-onto-clause-stays
returns-in_err-onto-clause-stays c =
    stays-then c.args.layers.now c.place_parents.new.layers c.place_parents-2.new.layers c.place_parents.ensures.stays c.place_parents-2.ensures.stays

pub returns-in_err-onto-clause-same : goal.returns-in_err-onto-clause-same
returns-in_err-onto-clause-same c =
    same-then c.args.layers.now c.place_parents.new.layers c.place_parents-2.new.layers c.place_parents.ensures.same c.place_parents-2.ensures.same

pub returns-in_err-onto-clause-gains : goal.returns-in_err-onto-clause-gains
returns-in_err-onto-clause-gains c =
    let p = c.place_parents.ensures in
    let p2 = c.place_parents-2.ensures in
    let l1 = c.place_parents.new.layers in
    record {
      mid = l1;
      first = subst (GainsParents c.args.layers.now l1) (sym c.in-Some.ensures) (p.gains c.in-Some.field-0-0.now);
      same_first = p.same;
      second = subst (GainsParents l1 c.place_parents-2.new.layers) (sym c.in-Some-split_last.ensures) (p2.gains c.in-Some-split_last.field-0-0.now);
      same_second = p2.same;
    }

pub returns-clause-stays : goal.returns-clause-stays
returns-clause-stays c =
    stays-then c.args.layers.now c.place_parents.new.layers c.place_parents-2.new.layers c.place_parents.ensures.stays c.place_parents-2.ensures.stays

pub returns-clause-same : goal.returns-clause-same
returns-clause-same c =
    same-then c.args.layers.now c.place_parents.new.layers c.place_parents-2.new.layers c.place_parents.ensures.same c.place_parents-2.ensures.same

pub returns-clause-gains : goal.returns-clause-gains
returns-clause-gains c =
    let p = c.place_parents.ensures in
    let p2 = c.place_parents-2.ensures in
    let l1 = c.place_parents.new.layers in
    record {
      mid = l1;
      first = subst (GainsParents c.args.layers.now l1) (sym c.in-Some.ensures) (p.gains c.in-Some.field-0-0.now);
      same_first = p.same;
      second = subst (GainsParents l1 c.place_parents-2.new.layers) (sym c.in-Some-split_last.ensures) (p2.gains c.in-Some-split_last.field-0-0.now);
      same_second = p2.same;
    }

pub returns-clause-from : goal.returns-clause-from
returns-clause-from c =
    let p2 = c.place_parents-2.ensures in
    stack-kept c.place_parents.new.layers c.place_parents-2.new.layers p2.same p2.stays.holds (parent c.args.old.now) (unwrap_or c.in_ok-placed.placed c.args.directory.now) c.in_ok-placed.ensures.upper
    (subst (λ x. IsStackOf c.place_parents.new.layers (parent x) (unwrap_or c.in_ok-placed.placed c.args.directory.now)) (sym c.in-Some.ensures) c.in_ok-placed.ensures.stack)
