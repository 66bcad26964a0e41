use Rattle.std.proofs.lemmas.Result.{IfOk-weaker}
use Rattle.command_line.proofs.Added.{still_local, with_one}
use Rattle.command_line.proofs.arguments.serve.Goals as goal

pub returns-clause-app : goal.returns-clause-app
returns-clause-app c =
    let timed = with_one _ _ _ _ _ c.in_ok-serve_within.ensures.app c.idle.ensures.rule
    c.idle.ensures.local c.in_ok-arg.ensures in
    let strict = with_one _ _ _ _ _ timed c.refuse.ensures.rule c.refuse.ensures.local
    c.in_ok-arg-2.ensures in
    let cleared = with_one _ _ _ _ _ strict c.unlink.ensures.rule c.unlink.ensures.local
    c.in_ok-arg-3.ensures in
    let closed = with_one _ _ _ _ _ cleared c.until_eof.ensures.rule c.until_eof.ensures.local
    c.in_ok-arg-4.ensures in
    let saved = with_one _ _ _ _ _ closed c.save.ensures.rule c.save.ensures.local
    c.in_ok-arg-5.ensures in
    let counted = with_one _ _ _ _ _ saved c.status.ensures.rule c.status.ensures.local
    c.in_ok-arg-6.ensures in
    IfOk-weaker c.arg-7.result _ _
    (λ r adds. with_one _ r _ _ _ counted c.verbose.ensures.rule c.verbose.ensures.local adds)
    c.arg-7.ensures

pub returns-clause-local : goal.returns-clause-local
returns-clause-local c =
    let timed = still_local _ _ _ c.in_ok-serve_within.ensures.local c.idle.ensures.local
    c.in_ok-arg.ensures in
    let strict = still_local _ _ _ timed c.refuse.ensures.local c.in_ok-arg-2.ensures in
    let cleared = still_local _ _ _ strict c.unlink.ensures.local c.in_ok-arg-3.ensures in
    let closed = still_local _ _ _ cleared c.until_eof.ensures.local c.in_ok-arg-4.ensures in
    let saved = still_local _ _ _ closed c.save.ensures.local c.in_ok-arg-5.ensures in
    let counted = still_local _ _ _ saved c.status.ensures.local c.in_ok-arg-6.ensures in
    IfOk-weaker c.arg-7.result _ _
    (λ r adds. still_local _ r _ counted c.verbose.ensures.local adds) c.arg-7.ensures
