use Rattle.doors.proofs.Whole.{keeps, left, whole}
use Rattle.doors.proofs.owned.running.run_session.Goals as goal

pub returns-clause-session : goal.returns-clause-session
returns-clause-session g c =
    let run = c.session_run-ending in
    whole c.args.client c.args.core c.into_core.result c.new-door.result run.new.door
    c.new-door.ensures c.into_core.ensures run.ensures.session

pub returns-clause-detached : goal.returns-clause-detached
returns-clause-detached g c =
    let run = c.session_run-ending in
    left c.args.client c.args.core c.into_core.result
    (whole c.args.client c.args.core c.into_core.result c.new-door.result run.new.door
    c.new-door.ensures c.into_core.ensures run.ensures.session)

pub returns-clause-kept : goal.returns-clause-kept
returns-clause-kept g c =
    let run = c.session_run-ending in
    keeps c.args.client c.args.core c.into_core.result
    (whole c.args.client c.args.core c.into_core.result c.new-door.result run.new.door
    c.new-door.ensures c.into_core.ensures run.ensures.session)
