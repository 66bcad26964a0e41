use Rattle.std.proofs.Common.{rules, refl}
use Rattle.std.specs.BTreeMap.{get}
use Rattle.std.specs.Ordering.{nat_cmp}
use Rattle.mount_calls.proofs.Holding.{Becomes, client-changes, counts-gives}
use Rattle.mount_calls.proofs.clients.Clients.next_names.Goals.{After-next_names}
use Rattle.mount_calls.proofs.clients.Clients.next_names.Goals as goal

becomes : (c : After-next_names) → Becomes c.args.self.now c.args.client c.unwrap.result.now (get nat_cmp (c.get_mut.follows.lender c.next_names.new.self)) c.next_names.new.self
becomes c = record { was = search rules; is = search rules; others = search rules }

pub returns : goal.returns
returns c = client-changes _ _ _ _ _ _ (becomes (goal.at.returns c).After-next_names) c.next_names.ensures (λ b d o l there at. at) refl

pub invariant_of-self : goal.invariant_of-self
invariant_of-self c = counts-gives _ _ _ _ _ (becomes (goal.at.invariant_of-self c).After-next_names) c.args.descriptor c.args.count c.next_names.result c.next_names.ensures
