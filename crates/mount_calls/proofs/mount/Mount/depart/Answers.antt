use Rattle.mount_calls.proofs.Leaving.{gone}
use Rattle.mount_calls.proofs.mount.Mount.depart.Goals as goal

pub returns-clause-gone : goal.returns-clause-gone
returns-clause-gone c = λ s st. gone c.args.self.now s c.detach.new.self c.args.client st c.detach.ensures.detaches c.detach.ensures.places
