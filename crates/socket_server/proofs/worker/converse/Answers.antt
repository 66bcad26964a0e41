use Rattle.std.proofs.Common.{is_some, map}
use Rattle.socket_server.proofs.worker.converse.Goals as goal

pub returns : goal.returns
returns g c count h =
    c.run-ending.ensures (map g.M.Service.tag c.args.hooks.now) (is_some c.args.guard.now.closing)
    (λ client step may. may) c.in_ok-client.ensures.comes count h
