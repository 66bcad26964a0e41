use Rattle.std.proofs.Common.{arith}
use Rattle.std.proofs.lemmas.List.Sums.{prefix_len-le-length}
use Rattle.ov_base.proofs.PlainLemmas.{is_plain}
use Rattle.ov_base.proofs.plain.plain_run.Goals as goal

pub overflow_add-result-2 : goal.overflow_add-result-2
overflow_add-result-2 c = omega (arith, prefix_len-le-length is_plain c.runs.rest.now)
