use Rattle.std.proofs.Common.{rules, ◌≡◌, is_some}
use Rattle.std.specs.BTreeMap.{get}
use Rattle.std.specs.Ordering.{nat_cmp}
use Rattle.mount_calls.proofs.Coming.{tells}
use Rattle.mount_calls.proofs.mount.Mount.is_attached.Goals as goal

pub returns-clause-state : goal.returns-clause-state
returns-clause-state c = λ s st.
    let there : c.is_some.result ≡ is_some (get nat_cmp c.args.self.now.clients.attached c.args.client) = search rules in
    tells c.args.self.now s st c.args.self.now.clients c.args.client c.is_some.result there
