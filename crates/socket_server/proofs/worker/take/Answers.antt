use Rattle.std.proofs.Common.{is_some, map}
use Rattle.socket_server.proofs.Clients.{not_not}
use Rattle.socket_server.proofs.worker.take.Goals as goal

pub returns-in_default-clause-clients : goal.returns-in_default-clause-clients
returns-in_default-clause-clients g c h =
    let was = c.args.worked.now in
    g.met.M.Service.of_any (map g.M.Service.tag c.args.hooks.now) (is_some c.args.guard.now.closing)
    was.tally.served was.kept (rw c.requires.well at h)

pub returns-in-Ok-serve-clause-clients : goal.returns-in-Ok-serve-clause-clients
returns-in-Ok-serve-clause-clients g c h =
    rw (not_not c.in-Ok-serve.detached, c.serves.ensures.served)
    (c.in-Ok-serve.ensures c.args.worked.now.tally.served (rw c.requires.well at h))

pub returns-in-Err-clause-clients : goal.returns-in-Err-clause-clients
returns-in-Err-clause-clients g c h =
    rw (c.requires.well, c.refuses-in-Err.ensures.served)
    (c.in-Err.ensures c.args.worked.now.tally.served (rw c.requires.well at h))
