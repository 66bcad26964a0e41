use Rattle.std.proofs.Common.{reverse, sym, subst}
use Rattle.merged_lookup.specs.Merged.{parent, IsAnswer, IsStackOf}
use Rattle.make_remove.proofs.Sights.{answer-none, answer-some, top-inode, top-some}
use Rattle.make_remove.proofs.seen.found_in.Goals as goal

pub returns-in-Inode : goal.returns-in-Inode
returns-in-Inode c = top-inode c.args.layers.now c.args.path.now c.args.top c.in-Inode.place c.in-Inode.is c.requires.top

pub unreachable-requires : goal.unreachable-requires
unreachable-requires c = c.requires.below c.in_default-split_last.ensures

pub unreachable-requires-in_default-step : goal.unreachable-requires-in_default-step
unreachable-requires-in_default-step c =
    let l = c.args.layers.now in
    let p = c.args.path.now in
    let t = reverse c.in-Some.field-0-1.now in
    let at = subst (λ x. IsStackOf l (parent x) c.args.directory.now) c.in-Some.ensures c.requires.directory in
    answer-none l p c.step.result c.in_default-step.is (subst (λ x. IsAnswer l x c.step.result) (sym c.in-Some.ensures) (c.step.ensures t at)) (top-some l p c.args.top c.requires.top)

pub returns : goal.returns
returns c =
    let l = c.args.layers.now in
    let p = c.args.path.now in
    let t = reverse c.in-Some.field-0-1.now in
    let at = subst (λ x. IsStackOf l (parent x) c.args.directory.now) c.in-Some.ensures c.requires.directory in
    answer-some l p c.step.result c.in-Some-step.found c.in-Some-step.is (subst (λ x. IsAnswer l x c.step.result) (sym c.in-Some.ensures) (c.step.ensures t at))
