use Rattle.std.proofs.Common.{◌∙◌, arith}
use Rattle.merged_lookup.specs.Merged.{lowers_of}
use Rattle.mount_calls.proofs.Lacking.{low-lower, low-own}
use Rattle.mount_calls.proofs.Raising.{below-raw}
use Rattle.mount_calls.proofs.lacks.low_inode.Goals as goal

pub returns-then-place-gt0 : goal.returns-then-place-gt0
returns-then-place-gt0 c = λ p at. c.source_of.ensures ∙ low-lower _ _ _ _ c.if-place-gt0.true (below-raw _ c.args.place.layer c.args.place.key (lowers_of c.args.layers.now) _ c.if-place-gt0.true (c.inode_at-inode.ensures p at))

pub returns : goal.returns
returns c = λ p at. low-own _ _ _ _ (omega arith) at.shown
