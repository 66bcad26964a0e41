use Rattle.std.proofs.Common.{rules, ◌≡◌, ◌≢◌, ℕ}
use Rattle.std.specs.BTreeMap.{get}
use Rattle.std.specs.Ordering.{nat_cmp}
use Rattle.mount_calls.proofs.Holding.{counts-gone}
use Rattle.mount_calls.proofs.clients.Clients.detach.Goals as goal

pub invariant_of-self : goal.invariant_of-self
invariant_of-self c =
    let others : (m : ℕ) → m ≢ c.args.client → get nat_cmp c.remove.new.self m ≡ get nat_cmp c.args.self.now.attached m = search rules in
    counts-gone c.args.self.now c.args.client (get nat_cmp c.remove.new.self) (search rules) others c.requires
