use Rattle.mount_calls.proofs.Coming.{begins}
use Rattle.mount_calls.proofs.mount.Mount.new.Goals as goal

pub returns-clause-begins : goal.returns-clause-begins
returns-clause-begins c = begins _ (rw c.in-Ok.is at c.new.ensures.none) (rw c.in-Ok.is at c.new.ensures.first)
