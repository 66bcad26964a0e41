use Rattle.std.proofs.lemmas.Result.{IfOk-weaker}
use Rattle.command_line.proofs.Added.{still_local, with_one}
use Rattle.command_line.proofs.arguments.serve_within.Goals as goal

pub returns-clause-app : goal.returns-clause-app
returns-clause-app c =
    let named = with_one _ _ _ _ _ c.in_ok-bare_serve.ensures.app c.socket.ensures.rule
    c.socket.ensures.local c.in_ok-arg.ensures in
    let worked = with_one _ _ _ _ _ named c.workers.ensures.rule c.workers.ensures.local
    c.in_ok-arg-2.ensures in
    let ended = with_one _ _ _ _ _ worked c.sessions.ensures.rule c.sessions.ensures.local
    c.in_ok-arg-3.ensures in
    let placed = with_one _ _ _ _ _ ended c.history.ensures.rule c.history.ensures.local
    c.in_ok-arg-4.ensures in
    IfOk-weaker c.arg-5.result _ _
    (λ r adds. with_one _ r _ _ _ placed c.no_history.ensures.rule c.no_history.ensures.local adds)
    c.arg-5.ensures

pub returns-clause-local : goal.returns-clause-local
returns-clause-local c =
    let named = still_local _ _ _ c.in_ok-bare_serve.ensures.local c.socket.ensures.local
    c.in_ok-arg.ensures in
    let worked = still_local _ _ _ named c.workers.ensures.local c.in_ok-arg-2.ensures in
    let ended = still_local _ _ _ worked c.sessions.ensures.local c.in_ok-arg-3.ensures in
    let placed = still_local _ _ _ ended c.history.ensures.local c.in_ok-arg-4.ensures in
    IfOk-weaker c.arg-5.result _ _
    (λ r adds. still_local _ r _ placed c.no_history.ensures.local adds) c.arg-5.ensures
