use Rattle.ov_server.proofs.GoingOn.{before_view, put_view}
use Rattle.ov_server.proofs.joining.put.Goals as goal

pub returns-clause-put : goal.returns-clause-put
returns-clause-put c =
    put_view c.args.table.now c.insert.new.self c.in_ok-key.key c.args.name.now c.args.value
    c.in_ok-before.ensures.entries c.in_ok-key.ensures.ok

pub returns-clause-before : goal.returns-clause-before
returns-clause-before c =
    before_view c.args.table.now c.in_ok-key.key c.args.name.now c.in_ok-before.before
    c.in_ok-before.ensures.old c.in_ok-key.ensures.ok
