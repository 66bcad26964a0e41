use Rattle.std.proofs.Common.{refl}
use Rattle.doors.proofs.Playing.{served_detach}
use Rattle.doors.proofs.owned.door.CoreDoorDoor.detach.Goals as goal

pub returns-clause-goes : goal.returns-clause-goes
returns-clause-goes g c =
    let was = c.args.self.now in (
      refl,
      served_detach was.client c.finished-place.result was.core c.detach.new.self
          c.finished-place.ensures c.detach.ensures.finished c.detach.ensures.detached
          c.detach.ensures.clients c.detach.ensures.kept,
    )
