use Rattle.std.proofs.lemmas.Result.{IfOk-weaker}
use Rattle.command_line.proofs.Added.{still_local, with_one}
use Rattle.command_line.proofs.arguments.subcommand.Goals as goal

pub returns-clause-app : goal.returns-clause-app
returns-clause-app c =
    let first = with_one _ _ _ _ _ c.in_ok-reading.ensures.app c.upper.ensures.rule
    c.upper.ensures.local c.in_ok-arg.ensures in
    IfOk-weaker c.arg-2.result _ _
    (λ r adds. with_one _ r _ _ _ first c.explain.ensures.rule c.explain.ensures.local adds)
    c.arg-2.ensures

pub returns-clause-local : goal.returns-clause-local
returns-clause-local c =
    let first = still_local _ _ _ c.in_ok-reading.ensures.local c.upper.ensures.local
    c.in_ok-arg.ensures in
    IfOk-weaker c.arg-2.result _ _
    (λ r adds. still_local _ r _ first c.explain.ensures.local adds) c.arg-2.ensures
