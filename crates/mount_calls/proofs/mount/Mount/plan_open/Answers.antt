use Rattle.std.proofs.Common.{ap}
use Rattle.ov_base.specs.declared.call.CallOf.TheVariants as call
use Rattle.mount_calls.proofs.Planning.{plans-found}
use Rattle.mount_calls.proofs.mount.Mount.plan_open.Goals as goal

pub judge_open-requires-clause-look : goal.judge_open-requires-clause-look
judge_open-requires-clause-look c =
    (c.args.path.now, c.one-look.ensures c.args.self.now.layers c.args.path.now c.requires.looks)

pub returns-in-Ok : goal.returns-in-Ok
returns-in-Ok c =
    let m = c.args.self.now in
    let p = c.args.path.now in
    let saw = c.one-look.ensures m.layers p c.requires.looks in
    plans-found m c.args.client (call.Open p c.args.flags c.args.mode) _
    (ap (call.Open p c.args.flags) c.in-Ok.ensures.mode) (saw, c.in-Ok.ensures.judged p saw)
    (c.in-Ok.ensures.allowed p saw)
