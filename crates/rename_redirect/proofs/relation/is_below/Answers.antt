use Rattle.std.proofs.Common.{nat_lt, length, take, ap, ◌∙◌, arith}
use Rattle.plain_model.specs.Layers.{same_path}
use Rattle.rename_redirect.proofs.Below.{below-prefix, below-longer}
use Rattle.rename_redirect.proofs.relation.is_below.Goals as goal

pub returns-then-length-names : goal.returns-then-length-names
returns-then-length-names c =
    let path = ap length c.names-length.ensures in
    let other = ap length c.names.ensures in
    c.eq.ensures
    ∙ (λ i. same_path (take (length (c.names-length.ensures i)) (c.names-then-length-names.ensures i)) (c.names-then-length-names-2.ensures i))
    ∙ below-prefix c.args.path.now c.args.other.now (omega (arith, path, other, c.if-length-names.true))

pub returns-else-length-names : goal.returns-else-length-names
returns-else-length-names c =
    let path = ap length c.names-length.ensures in
    let other = ap length c.names.ensures in
    (λ i. nat_lt (length (c.names-length.ensures i)) (length (c.names.ensures i)))
    ∙ below-longer c.args.path.now c.args.other.now (omega (arith, path, other, c.if-length-names.false))
