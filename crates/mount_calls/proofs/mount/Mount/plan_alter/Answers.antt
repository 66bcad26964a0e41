use Rattle.std.proofs.Common.{refl}
use Rattle.mount_calls.specs.AttributeCalls.{call_at}
use Rattle.mount_calls.proofs.Planning.{plans-found}
use Rattle.mount_calls.proofs.mount.Mount.plan_alter.Goals as goal

pub judge_alter-requires : goal.judge_alter-requires
judge_alter-requires c =
    (c.args.path.now, c.one-look.ensures c.args.self.now.layers c.args.path.now c.requires)

pub returns-in-Ok : goal.returns-in-Ok
returns-in-Ok c = λ client.
    let m = c.args.self.now in
    let p = c.args.path.now in
    let saw = c.one-look.ensures m.layers p c.requires in
    plans-found m client (call_at p c.args.ask) _ refl (saw, c.in-Ok.ensures.target p saw)
    (c.in-Ok.ensures.allowed p saw client)
