use Rattle.std.proofs.Common.{refl}
use Rattle.ov_base.specs.declared.call.CallOf.TheVariants as call
use Rattle.mount_calls.proofs.Planning.{plans-found, plans-refusal}
use Rattle.mount_calls.proofs.mount.Mount.plan_link.Goals as goal

pub returns-in-Ok : goal.returns-in-Ok
returns-in-Ok c = λ client.
    let m = c.args.self.now in
    let p = c.args.old.now in
    let q = c.args.new.now in
    let saw = c.both.ensures m.layers p q c.requires in
    plans-found m client (call.Hardlink p q) _ refl
    (saw.0, saw.1, c.in-Ok.ensures.may p q saw.0 saw.1)
    (c.in-Ok.ensures.allowed p q saw.0 saw.1 client)

pub returns-in-Err : goal.returns-in-Err
returns-in-Err c = λ client.
    let m = c.args.self.now in
    let p = c.args.old.now in
    let q = c.args.new.now in
    let saw = c.both.ensures m.layers p q c.requires in
    plans-refusal m client (call.Hardlink p q) c.in-Err.errno
    (c.in-Err.ensures.refused p q saw.0 saw.1 client)
