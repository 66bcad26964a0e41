use Rattle.socket_server.proofs.Clients.{no_clients}
use Rattle.socket_server.proofs.shared_service.MountService.kept_of_none.Goals as goal

pub returns : goal.returns
returns g c tags closes = no_clients tags closes c.new.result c.new.ensures.items
