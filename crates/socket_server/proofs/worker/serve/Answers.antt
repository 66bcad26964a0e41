use Rattle.std.proofs.Common.{is_some, map, true}
use Rattle.socket_server.proofs.worker.serve.Goals as goal

pub returns : goal.returns
returns g c count h =
    c.converse-served.ensures count
    (c.reserve.ensures.same (map g.M.Service.tag c.args.hooks.now)
    (is_some c.args.guard.now.closing) true count h)
