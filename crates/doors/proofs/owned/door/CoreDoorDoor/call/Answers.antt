use Rattle.std.proofs.Common.{rules, ◌≤◌, ◌^◌, refl}
use Rattle.doors.proofs.Playing.{served_held_back}
use Rattle.doors.proofs.owned.door.CoreDoorDoor.call.Goals as goal

pub returns-then-finished-ge-FINISHED_MAX-clause-told : goal.returns-then-finished-ge-FINISHED_MAX-clause-told
returns-then-finished-ge-FINISHED_MAX-clause-told g c =
    let was = c.args.self.now in
    let many : 2 ^ 62 ≤ was.core.finished = search rules in
    (search rules, (refl, served_held_back was.client was.core was.core c.args.call many refl))
