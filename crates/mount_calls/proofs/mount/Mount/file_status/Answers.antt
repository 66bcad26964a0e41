use Rattle.std.proofs.Common.{Ok, Err}
use Rattle.mount_calls.proofs.FileReads.{file-status}
use Rattle.mount_calls.proofs.mount.Mount.file_status.Goals as goal

pub returns-in-Ok : goal.returns-in-Ok
returns-in-Ok c = λ s st.
    file-status c.args.self.now s st c.args.client c.args.descriptor c.args.file c.requires (Ok c.in-Ok.status) c.in-Ok.ensures

pub returns-in-Err : goal.returns-in-Err
returns-in-Err c = λ s st.
    file-status c.args.self.now s st c.args.client c.args.descriptor c.args.file c.requires (Err c.in-Err.errno) c.in-Err.ensures
