use Rattle.std.proofs.Common.{rules, refl}
use Rattle.std.specs.BTreeMap.{get}
use Rattle.std.specs.Ordering.{nat_cmp}
use Rattle.open_handles.specs.Listings.{with_place}
use Rattle.mount_calls.proofs.Holding.{Becomes, client-changes, counts-changed, on-place}
use Rattle.mount_calls.proofs.clients.Clients.move_to.Goals.{After-move_to}
use Rattle.mount_calls.proofs.clients.Clients.move_to.Goals as goal

becomes : (c : After-move_to) → Becomes c.args.self.now c.args.client c.unwrap.result.now (get nat_cmp (c.get_mut.follows.lender c.move_to.new.self)) c.move_to.new.self
becomes c = record { was = search rules; is = search rules; others = search rules }

pub returns : goal.returns
returns c = client-changes _ _ _ _ _ _ (becomes (goal.at.returns c).After-move_to) c.move_to.ensures (λ b d o l there at. at) refl

pub invariant_of-self : goal.invariant_of-self
invariant_of-self c = counts-changed _ _ _ _ _ (becomes (goal.at.invariant_of-self c).After-move_to) c.args.descriptor (with_place c.args.place) (on-place c.args.place) c.move_to.ensures
