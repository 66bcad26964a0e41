use Rattle.std.proofs.Common.{reverse, take, subst, sym}
use Rattle.merged_lookup.proofs.Descending.{reverse-more}
use Rattle.merged_lookup.proofs.Keeping.{IsPlain, plain-root, plain-on, missing-hands}
use Rattle.merged_lookup.proofs.kept.handed_down.Goals as goal

pub loop-name-init : goal.loop-name-init
loop-name-init c = plain-root c.args.upper.now

pub returns-in-Nothing : goal.returns-in-Nothing
returns-in-Nothing c =
    missing-hands c.args.upper.now c.args.names.now c.loop-name.name-index c.name-item.result c.loop-name.dir
    c.loop-name-test.true c.name-item.is c.loop-name.invariant c.in-Nothing.ensures

pub loop-name-preserved : goal.loop-name-preserved
loop-name-preserved c =
    let before = reverse (take c.loop-name.name-index c.args.names.now) in
    subst (λ p. IsPlain c.args.upper.now p c.in-Plain.key)
    (sym (reverse-more c.args.names.now c.loop-name.name-index c.name-item.result c.loop-name-test.true c.name-item.is))
    (plain-on c.args.upper.now before c.name-item.result c.loop-name.dir c.in-Plain.key c.loop-name.invariant c.in-Plain.ensures)
