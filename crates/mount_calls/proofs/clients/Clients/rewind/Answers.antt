use Rattle.std.proofs.Common.{rules, None, refl}
use Rattle.std.specs.BTreeMap.{get}
use Rattle.std.specs.Ordering.{nat_cmp}
use Rattle.open_handles.specs.Listings.{with_listing}
use Rattle.mount_calls.proofs.Holding.{Becomes, client-changes, counts-changed, on-listing}
use Rattle.mount_calls.proofs.clients.Clients.rewind.Goals.{After-rewind}
use Rattle.mount_calls.proofs.clients.Clients.rewind.Goals as goal

becomes : (c : After-rewind) → Becomes c.args.self.now c.args.client c.unwrap.result.now (get nat_cmp (c.get_mut.follows.lender c.rewind.new.self)) c.rewind.new.self
becomes c = record { was = search rules; is = search rules; others = search rules }

pub returns : goal.returns
returns c = client-changes _ _ _ _ _ _ (becomes (goal.at.returns c).After-rewind) c.rewind.ensures (λ b d o l there at. at) refl

pub invariant_of-self : goal.invariant_of-self
invariant_of-self c = counts-changed _ _ _ _ _ (becomes (goal.at.invariant_of-self c).After-rewind) c.args.descriptor (with_listing None) (on-listing None) c.rewind.ensures
