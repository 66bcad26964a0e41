use Rattle.std.proofs.Common.{refl}
use Rattle.ov_base.specs.declared.call.CallOf.TheVariants as call
use Rattle.mount_calls.proofs.Planning.{plans-found, plans-refusal}
use Rattle.mount_calls.proofs.mount.Mount.plan_rename.Goals as goal

pub judge_rename-requires-clause-from : goal.judge_rename-requires-clause-from
judge_rename-requires-clause-from c =
    (c.both.ensures c.args.self.now.layers c.args.old.now c.args.new.now c.requires).0

pub judge_rename-requires-clause-onto : goal.judge_rename-requires-clause-onto
judge_rename-requires-clause-onto c =
    (c.both.ensures c.args.self.now.layers c.args.old.now c.args.new.now c.requires).1

pub returns-in-Ok-Some : goal.returns-in-Ok-Some
returns-in-Ok-Some c = λ client.
    let m = c.args.self.now in
    let p = c.args.old.now in
    let q = c.args.new.now in
    let saw = c.both.ensures m.layers p q c.requires in
    let may = rw c.in-Ok-Some.field-0-is at c.in-Ok-Some.ensures.moves in
    plans-found m client (call.Rename p q) _ refl (saw.0, saw.1, may)
    (λ s st. c.in-Ok-Some.ensures.allowed s st client)

pub returns-in-Ok-None : goal.returns-in-Ok-None
returns-in-Ok-None c = λ client.
    let m = c.args.self.now in
    let one = rw c.in-Ok-None.field-0-is at c.in-Ok-None.ensures.one in
    let stays = rw c.in-Ok-None.field-0-is at c.in-Ok-None.ensures.stays in
    plans-found m client (call.Rename c.args.old.now c.args.new.now) _ refl (one, stays)
    (λ s st. c.in-Ok-None.ensures.allowed s st client)

pub returns-in-Err : goal.returns-in-Err
returns-in-Err c = λ client.
    plans-refusal c.args.self.now client (call.Rename c.args.old.now c.args.new.now)
    c.in-Err.errno (λ s st. c.in-Err.ensures.refused s st client)
