use Rattle.mount_calls.proofs.Coming.{attach-serves, attach-failed}
use Rattle.mount_calls.proofs.mount.Mount.attach.Goals as goal

pub returns-clause-attached : goal.returns-clause-attached
returns-clause-attached c = attach-serves c.args.self.now c.attach.new.self c.attach.result c.attach.ensures.attached

pub returns-clause-err : goal.returns-clause-err
returns-clause-err c = attach-failed c.args.self.now c.attach.new.self c.attach.result c.attach.ensures.err
