use Rattle.socket_server.proofs.Clients.{no_guests}
use Rattle.socket_server.proofs.endless_service.EndlessService.kept_of_none.Goals as goal

pub returns : goal.returns
returns g c tags closes = no_guests tags closes c.again.result
