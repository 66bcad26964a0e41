use Rattle.socket_server.proofs.Clients.{same_clients}
use Rattle.socket_server.proofs.shared_service.MountService.reserve.Goals as goal

pub returns-clause-same : goal.returns-clause-same
returns-clause-same g c tags closes gone count =
    same_clients tags closes gone count c.args.kept.now c.reserve.new.self c.reserve.ensures.items
