use Rattle.std.proofs.Common.{None, Some, sym, ap, ◌∙◌}
use Rattle.std.specs.Result.{result_err}
use Rattle.ov_base.specs.Targets.{target_of}
use Rattle.mount_calls.proofs.Judging.{refuses-symlink, refuses-target}
use Rattle.mount_calls.proofs.Keys.{look-seen}
use Rattle.mount_calls.proofs.mount.Mount.judge_symlink.Goals as goal

pub returns-in-Some-clause-refused : goal.returns-in-Some-clause-refused
returns-in-Some-clause-refused c = λ s st client.
    refuses-target c.args.self.now client c.args.target.now c.args.path.now c.in-Some.errno
    (ap (λ z. result_err (target_of z)) (sym c.as_slice.ensures) ∙ sym c.fault.ensures
    ∙ c.in-Some.is) s st

pub returns-in-Ok-clause-allowed : goal.returns-in-Ok-clause-allowed
returns-in-Ok-clause-allowed c = λ s st client.
    let m = c.args.self.now in
    let t = c.args.target.now in
    let p = c.args.path.now in
    let seen = look-seen m.layers p c.args.look.now c.requires in
    refuses-symlink m client t p None (ap (λ z. result_err (target_of z)) (sym c.as_slice.ensures)
    ∙ sym c.fault.ensures ∙ c.in_default.is) (c.in-Ok.ensures.cases m.layers p seen) s st

pub returns-in-Ok-clause-target : goal.returns-in-Ok-clause-target
returns-in-Ok-clause-target c = ap (λ z. result_err (target_of z)) (sym c.as_slice.ensures)
    ∙ sym c.fault.ensures ∙ c.in_default.is

pub returns-in-Ok-clause-found : goal.returns-in-Ok-clause-found
returns-in-Ok-clause-found c =
    let m = c.args.self.now in
    let p = c.args.path.now in
    let seen = look-seen m.layers p c.args.look.now c.requires in
    let said = c.in-Ok.ensures in
    record {
      parents = said.parents m.layers p seen;
      absent = said.absent m.layers p seen;
      directory
          = said.parent m.layers p seen;
    }

pub returns-in-Err-clause-refused : goal.returns-in-Err-clause-refused
returns-in-Err-clause-refused c = λ s st client.
    let m = c.args.self.now in
    let t = c.args.target.now in
    let p = c.args.path.now in
    let seen = look-seen m.layers p c.args.look.now c.requires in
    refuses-symlink m client t p (Some c.in-Err.errno)
    (ap (λ z. result_err (target_of z)) (sym c.as_slice.ensures) ∙ sym c.fault.ensures
    ∙ c.in_default.is) (c.in-Err.ensures.cases m.layers p seen) s st
