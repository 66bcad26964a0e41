use Rattle.doors.proofs.endless.door.EndlessDoorDoor.detach.Goals as goal

pub returns-clause-goes : goal.returns-clause-goes
returns-clause-goes g c = (c.leave-answer.ensures.gate, c.leave-answer.ensures.goes)
