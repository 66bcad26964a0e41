use Rattle.std.proofs.Common.{ap, rules}
use Rattle.ov_base.specs.declared.call.CallOf.TheVariants as call
use Rattle.mount_calls.proofs.Planning.{plans-found, plans-refusal}
use Rattle.mount_calls.proofs.mount.Mount.plan_mkdir.Goals as goal

pub returns-in-Ok : goal.returns-in-Ok
returns-in-Ok c = λ client.
    let m = c.args.self.now in
    let p = c.args.path.now in
    let saw = c.one-look.ensures m.layers p c.requires in
    plans-found m client (call.Mkdir p c.args.mode) _ (ap (call.Mkdir p) (search rules))
    (saw, c.in-Ok.ensures.found) (λ s st. c.in-Ok.ensures.allowed s st client)

pub returns-in-Err : goal.returns-in-Err
returns-in-Err c = λ client.
    plans-refusal c.args.self.now client (call.Mkdir c.args.path.now c.args.mode) c.in-Err.errno
    (λ s st. c.in-Err.ensures.refused s st client)
