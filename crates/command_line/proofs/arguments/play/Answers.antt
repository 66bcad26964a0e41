use Rattle.std.proofs.lemmas.Result.{IfOk-weaker}
use Rattle.command_line.proofs.Added.{still_local, with_one}
use Rattle.command_line.proofs.arguments.play.Goals as goal

pub returns-clause-app : goal.returns-clause-app
returns-clause-app c =
    let first = with_one _ _ _ _ _ c.in_ok-subcommand.ensures.app c.echo.ensures.rule
    c.echo.ensures.local c.in_ok-arg.ensures in
    IfOk-weaker c.arg-2.result _ _
    (λ r adds. with_one _ r _ _ _ first c.script.ensures.rule c.script.ensures.local adds)
    c.arg-2.ensures

pub returns-clause-local : goal.returns-clause-local
returns-clause-local c =
    let first = still_local _ _ _ c.in_ok-subcommand.ensures.local c.echo.ensures.local
    c.in_ok-arg.ensures in
    IfOk-weaker c.arg-2.result _ _
    (λ r adds. still_local _ r _ first c.script.ensures.local adds) c.arg-2.ensures
