use Rattle.mount_calls.proofs.AlteredCalls.{alter-made}
use Rattle.mount_calls.proofs.mount.Mount.alter.Goals as goal

pub returns-clause-makes : goal.returns-clause-makes
returns-clause-makes c = alter-made c.args.self.now c.alter_found.new.layers c.args.path.now c.args.call c.alter_found.result c.requires.allowed c.alter_found.ensures
