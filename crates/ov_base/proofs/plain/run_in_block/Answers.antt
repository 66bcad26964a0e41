use Rattle.std.proofs.Common.{◌∙◌}
use Rattle.ov_base.proofs.PlainLemmas.{block-run}
use Rattle.ov_base.proofs.plain.run_in_block.Goals as goal

pub returns : goal.returns
returns c = c.min.ensures ∙ block-run c.args.block.now c.told-block
