use Rattle.rename_redirect.proofs.Rooms.{same-tree-then}
use Rattle.rename_redirect.proofs.names.room_for_both.Goals as goal

pub returns-clause-same : goal.returns-clause-same
returns-clause-same c = same-tree-then c.args.upper.now c.room.new.self c.room-2.new.self c.room.ensures.same c.room-2.ensures.same
