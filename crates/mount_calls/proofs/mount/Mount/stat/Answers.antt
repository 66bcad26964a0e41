use Rattle.mount_calls.proofs.Answering.{stat-ok, stat-err}
use Rattle.mount_calls.proofs.mount.Mount.stat.Goals as goal

pub returns-in-Ok : goal.returns-in-Ok
returns-in-Ok c = λ client s st. stat-ok c.args.self.now s st client c.args.path.now c.in-Ok.status c.in-Ok.ensures

pub returns-in-Err : goal.returns-in-Err
returns-in-Err c = λ client s st. stat-err c.args.self.now s st client c.args.path.now c.in-Err.errno c.in-Err.ensures
