use Rattle.std.proofs.Common.{◌∙◌, arith}
use Rattle.merged_lookup.specs.Merged.{lowers_of}
use Rattle.mount_calls.proofs.Lacking.{low-data}
use Rattle.mount_calls.proofs.Marks.{data-own}
use Rattle.mount_calls.proofs.lacks.data_inode.Goals as goal

pub returns-then-place-eq0 : goal.returns-then-place-eq0
returns-then-place-eq0 c = λ p at. c.marked_place.ensures ∙ data-own c.args.layers.now p c.args.place at c.if-place-eq0.true

pub returns : goal.returns
returns c = λ p at. c.low_inode.ensures p at ∙ low-data (lowers_of c.args.layers.now) _ _ _ _ (omega arith) at.shown
