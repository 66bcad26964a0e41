use Rattle.std.proofs.Common.{None, Some}
use Rattle.mount_calls.proofs.Judging.{refuses-unlink}
use Rattle.mount_calls.proofs.Keys.{look-seen}
use Rattle.mount_calls.proofs.mount.Mount.judge_unlink.Goals as goal

pub returns-in-Ok-clause-allowed : goal.returns-in-Ok-clause-allowed
returns-in-Ok-clause-allowed c = λ s st client.
    let m = c.args.self.now in
    let p = c.args.path.now in
    refuses-unlink m client p None (c.in-Ok.ensures.allowed m.layers
    (look-seen m.layers p c.args.look.now c.requires)) s st

pub returns-in-Ok-clause-found : goal.returns-in-Ok-clause-found
returns-in-Ok-clause-found c =
    let m = c.args.self.now in
    let seen = look-seen m.layers c.args.path.now c.args.look.now c.requires in
    let said = c.in-Ok.ensures in
    record {
      allowed = said.allowed m.layers seen;
      directory = said.directory m.layers seen;
      shown =
          said.shown m.layers seen;
    }

pub returns-in-Err-clause-refused : goal.returns-in-Err-clause-refused
returns-in-Err-clause-refused c = λ s st client.
    let m = c.args.self.now in
    let p = c.args.path.now in
    refuses-unlink m client p (Some c.in-Err.errno)
    (c.in-Err.ensures.refused m.layers (look-seen m.layers p c.args.look.now c.requires)) s st
