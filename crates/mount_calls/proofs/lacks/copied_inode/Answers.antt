use Rattle.std.proofs.Common.{◌∙◌}
use Rattle.plain_model.specs.Layers.{shows}
use Rattle.merged_lookup.specs.Merged.{layers_of}
use Rattle.mount_calls.proofs.Lacking.{all-copied, none-copied}
use Rattle.mount_calls.proofs.lacks.copied_inode.Goals as goal

pub returns-then-metacopy : goal.returns-then-metacopy
returns-then-metacopy c = λ p at. none-copied c.args.metacopy (shows 0 (layers_of c.args.layers.now) p) c.if-metacopy.true

pub returns : goal.returns
returns c = λ p at. c.low_inode.ensures p at ∙ all-copied c.args.metacopy (shows 0 (layers_of c.args.layers.now) p) c.if-metacopy.false
