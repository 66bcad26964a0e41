use Rattle.std.proofs.Common.{sym, ap, ◌∙◌, subst}
use Rattle.ov_base.specs.declared.place.Place.{Place}
use Rattle.merged_lookup.specs.Merged.{parent}
use Rattle.copy_up.specs.Showing.{GainsParents}
use Rattle.rename_redirect.proofs.Given.{gains-second}
use Rattle.rename_redirect.proofs.Going.{not-root}
use Rattle.rename_redirect.proofs.Shown.{stack-kept}
use Rattle.rename_redirect.proofs.moves.place_ways.Goals as goal

pub unreachable-requires : goal.unreachable-requires
unreachable-requires c = not-root c.args.new.now c.args.old.now c.requires.within c.in_default.ensures

pub returns-in_err-placed-clause-gains : goal.returns-in_err-placed-clause-gains
returns-in_err-placed-clause-gains c =
    let p = c.place_parents.ensures in
    let l0 = c.args.layers.now in
    let l1 = c.place_parents.new.layers in
    gains-second l0 l1 c.args.old.now c.args.new.now p.same (subst (GainsParents l0 l1) (sym c.in-Some.ensures) (p.gains c.in-Some.field-0-0.now))

pub returns-then-top-eq0-clause-gains : goal.returns-then-top-eq0-clause-gains
returns-then-top-eq0-clause-gains c =
    let p = c.place_parents.ensures in
    let l0 = c.args.layers.now in
    let l1 = c.place_parents.new.layers in
    gains-second l0 l1 c.args.old.now c.args.new.now p.same (subst (GainsParents l0 l1) (sym c.in-Some.ensures) (p.gains c.in-Some.field-0-0.now))

pub returns-then-top-eq0-clause-from : goal.returns-then-top-eq0-clause-from
returns-then-top-eq0-clause-from c =
    let p = c.place_parents.ensures in
    let upper = ap (λ (d : Place). d.layer) (sym c.top-top.ensures) ∙ c.if-top-eq0.true in
    stack-kept c.args.layers.now c.place_parents.new.layers p.same p.stays.holds (parent c.args.old.now) c.args.directory.now upper c.requires.directory
