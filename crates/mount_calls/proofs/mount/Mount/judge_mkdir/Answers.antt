use Rattle.std.proofs.Common.{None, Some}
use Rattle.mount_calls.proofs.Judging.{refuses-mkdir, refuses-mode}
use Rattle.mount_calls.proofs.Keys.{look-seen}
use Rattle.mount_calls.proofs.Parsed.{mode-fault, mode-fine}
use Rattle.mount_calls.proofs.mount.Mount.judge_mkdir.Goals as goal

pub returns-in-Err-clause-refused : goal.returns-in-Err-clause-refused
returns-in-Err-clause-refused c = λ s st client.
    refuses-mode c.args.self.now client c.args.path.now c.args.mode c.in-Err.errno
    (mode-fault c.args.mode c.in-Err.errno (rw c.in-Err.is at c.parse.ensures.told)) s st

pub returns-in-Ok-vacant-clause-allowed : goal.returns-in-Ok-vacant-clause-allowed
returns-in-Ok-vacant-clause-allowed c = λ s st client.
    let m = c.args.self.now in
    let p = c.args.path.now in
    let seen = look-seen m.layers p c.args.look.now c.requires in
    refuses-mkdir m client p c.args.mode None
    (mode-fine c.args.mode _ (rw c.in-Ok.is at c.parse.ensures.told))
    (c.in-Ok-vacant.ensures.cases m.layers p seen) s st

pub returns-in-Ok-vacant-clause-found : goal.returns-in-Ok-vacant-clause-found
returns-in-Ok-vacant-clause-found c =
    let m = c.args.self.now in
    let p = c.args.path.now in
    let seen = look-seen m.layers p c.args.look.now c.requires in
    let said = c.in-Ok-vacant.ensures in
    record {
      parents = said.parents m.layers p seen;
      absent = said.absent m.layers p seen;
      directory
          = said.parent m.layers p seen;
    }

pub returns-in-Err-vacant-clause-refused : goal.returns-in-Err-vacant-clause-refused
returns-in-Err-vacant-clause-refused c = λ s st client.
    let m = c.args.self.now in
    let p = c.args.path.now in
    let seen = look-seen m.layers p c.args.look.now c.requires in
    refuses-mkdir m client p c.args.mode (Some c.in-Err-vacant.errno)
    (mode-fine c.args.mode _ (rw c.in-Ok.is at c.parse.ensures.told))
    (c.in-Err-vacant.ensures.cases m.layers p seen) s st
