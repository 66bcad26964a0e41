use Rattle.std.proofs.Common.{is_some}
use Rattle.socket_server.proofs.Clients.{one_client_more}
use Rattle.socket_server.proofs.shared_service.MountService.run.Goals as goal

pub returns : goal.returns
returns g c tags closes count may new =
    let left = c.converse-left.result in
    rw c.is_some.ensures
    (one_client_more tags closes (is_some left.hooks) count c.args.kept.now
    c.push_reserved.new.self left.receipts
    c.push_reserved.ensures.items (c.converse-left.ensures tags closes may new))
