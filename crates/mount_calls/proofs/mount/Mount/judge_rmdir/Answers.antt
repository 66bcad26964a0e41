use Rattle.mount_calls.proofs.Judging.{allows-rmdir}
use Rattle.mount_calls.proofs.Keys.{look-seen}
use Rattle.mount_calls.proofs.mount.Mount.judge_rmdir.Goals as goal

pub removable-requires : goal.removable-requires
removable-requires c = look-seen c.args.self.now.layers c.args.path.now c.args.look.now c.requires

pub returns-in-Ok-clause-allowed : goal.returns-in-Ok-clause-allowed
returns-in-Ok-clause-allowed c = λ s st client. allows-rmdir c.args.self.now client c.args.path.now
    c.in-Ok.ensures.bare c.in-Ok.ensures.allowed s st

pub returns-in-Ok-clause-found : goal.returns-in-Ok-clause-found
returns-in-Ok-clause-found c =
    record {
      allowed = c.in-Ok.ensures.allowed;
      bare = c.in-Ok.ensures.bare;
      directory =
          c.in-Ok.ensures.directory;
    }

pub returns-in-Err-clause-refused : goal.returns-in-Err-clause-refused
returns-in-Err-clause-refused c = λ s st client. c.in-Err.ensures.refuses s st.layers client
