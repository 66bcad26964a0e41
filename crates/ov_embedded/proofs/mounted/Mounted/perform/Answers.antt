use Rattle.std.proofs.Common.{refl}
use Rattle.ov_embedded.proofs.Calls.{made_call, made_no_memory}
use Rattle.ov_embedded.proofs.mounted.Mounted.perform.Goals as goal

pub returns-in-Done-clause-made : goal.returns-in-Done-clause-made
returns-in-Done-clause-made c =
    let was = c.args.self.now in
    let job = c.new-job in
    made_call c.args.client c.finished-place.result was.core c.complete.new.self
    c.args.call c.in-Done.reply job.result job.ensures.call.0 job.ensures.call.1
    c.finished-place.ensures c.in-Done.ensures.finished c.in-Done.ensures.turn.0
    c.complete.ensures.clients c.complete.ensures.kept

pub returns-in-NoMemory-clause-made : goal.returns-in-NoMemory-clause-made
returns-in-NoMemory-clause-made c =
    let was = c.args.self.now in
    let job = c.new-job in
    made_no_memory c.args.client was.core c.complete.new.self
    c.args.call job.result job.ensures.call.1 (λ h. c.in-NoMemory.ensures.memory h refl)
    c.in-NoMemory.ensures.finished c.in-NoMemory.ensures.turn.0
    c.complete.ensures.clients c.complete.ensures.kept
