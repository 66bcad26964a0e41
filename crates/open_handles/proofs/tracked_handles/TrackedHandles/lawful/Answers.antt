use Rattle.open_handles.proofs.TrackedUses.{handle-le}
use Rattle.open_handles.proofs.tracked_handles.TrackedHandles.lawful.Goals as goal

pub returns-clause-used : goal.returns-clause-used
returns-clause-used c b d n h is = handle-le b d n c.args.self.now h is
