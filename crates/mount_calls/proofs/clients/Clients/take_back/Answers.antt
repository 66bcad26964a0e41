use Rattle.std.proofs.Common.{rules, ◌≡◌, ◌≢◌, ℕ}
use Rattle.std.specs.BTreeMap.{get}
use Rattle.std.specs.Ordering.{nat_cmp}
use Rattle.mount_calls.proofs.Holding.{counts-back}
use Rattle.mount_calls.proofs.clients.Clients.take_back.Goals as goal

pub invariant_of-self : goal.invariant_of-self
invariant_of-self c =
    let others : (m : ℕ) → m ≢ c.args.number → get nat_cmp c.remove.new.self m ≡ get nat_cmp c.args.self.now.attached m = search rules in
    counts-back c.args.self.now c.args.number (get nat_cmp c.remove.new.self) c.requires.last (search rules) others c.requires.none
