use Rattle.mount_calls.proofs.AlteredCalls.{judged-allowed, judged-refused, judged-target}
use Rattle.mount_calls.proofs.mount.Mount.judge_alter.Goals as goal

pub returns-clause-refused : goal.returns-clause-refused
returns-clause-refused c = judged-refused c.args.self.now c.args.look.now c.args.call.now
    c.judged.result c.judged.ensures

pub returns-clause-allowed : goal.returns-clause-allowed
returns-clause-allowed c = judged-allowed c.args.self.now c.args.look.now c.args.call.now
    c.judged.result c.judged.ensures

pub returns-clause-target : goal.returns-clause-target
returns-clause-target c = judged-target c.args.self.now c.args.look.now c.args.call.now
    c.judged.result c.judged.ensures
