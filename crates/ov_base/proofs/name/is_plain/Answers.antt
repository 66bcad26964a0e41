use Rattle.std.proofs.Common.{nat_eq, length, ap, ◌∙◌}
use Rattle.ov_base.proofs.PlainLemmas.{is_plain, all-plain}
use Rattle.ov_base.proofs.name.is_plain.Goals as goal

pub returns : goal.returns
returns c = ap (λ k. nat_eq k (length c.args.bytes.now)) c.plain_run.ensures
    ∙ all-plain is_plain c.args.bytes.now
