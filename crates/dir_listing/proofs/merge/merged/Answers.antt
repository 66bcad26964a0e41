use Rattle.std.proofs.Common.{◌∙◌, sym}
use Rattle.dir_listing.proofs.Runs.{merge-lower, merge-same, merge-upper, merged-upper, merged-lower}
use Rattle.dir_listing.proofs.merge.merged.Goals as goal

pub loop-first-preserved-in-Less : goal.loop-first-preserved-in-Less
loop-first-preserved-in-Less c =
    merge-lower c.args.upper.now c.args.lower.now c.loop-first.all.items _ c.loop-first.first c.loop-first.second c.index-lower-second.result c.index-upper-first.result c.loop-first.invariant c.loop-first-test.true c.if-second-lower.false c.index-lower-second.is c.index-upper-first.is (sym c.cmp.ensures ∙ c.in-Less.is) c.in_ok-push-in-Less.ensures.items

pub loop-first-preserved-in-Equal : goal.loop-first-preserved-in-Equal
loop-first-preserved-in-Equal c =
    merge-same c.args.upper.now c.args.lower.now c.loop-first.all.items c.loop-first.first c.loop-first.second c.index-lower-second.result c.index-upper-first.result c.loop-first.invariant c.loop-first-test.true c.if-second-lower.false c.index-lower-second.is c.index-upper-first.is (sym c.cmp.ensures ∙ c.in-Equal.is)

pub loop-first-preserved : goal.loop-first-preserved
loop-first-preserved c =
    merge-upper c.args.upper.now c.args.lower.now c.loop-first.all.items _ c.loop-first.first c.loop-first.second c.index-lower-second.result c.index-upper-first.result c.loop-first.invariant c.loop-first-test.true c.if-second-lower.false c.index-lower-second.is c.index-upper-first.is (sym c.cmp.ensures ∙ c.in-Greater.is) c.in_ok-push-in-Greater.ensures.items

pub returns-then-second-lower-clause-found : goal.returns-then-second-lower-clause-found
returns-then-second-lower-clause-found c =
    merged-upper c.args.upper.now c.args.lower.now c.loop-first.all.items _ c.loop-first.first c.loop-first.second c.loop-first.invariant c.if-second-lower.true c.in_ok-extend_from_slice.ensures.items

pub returns-clause-found : goal.returns-clause-found
returns-clause-found c =
    merged-lower c.args.upper.now c.args.lower.now c.loop-first.all.items _ c.loop-first.first c.loop-first.second c.loop-first.invariant c.loop-first-test.false c.in_ok-extend_from_slice-2.ensures.items
