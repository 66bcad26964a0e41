use Rattle.std.proofs.Common.{rules, refl}
use Rattle.std.specs.BTreeMap.{get}
use Rattle.std.specs.Ordering.{nat_cmp}
use Rattle.open_handles.specs.Listings.{with_listing}
use Rattle.mount_calls.proofs.Holding.{Becomes, client-changes, counts-changed, on-listing}
use Rattle.mount_calls.proofs.clients.Clients.keep_listing.Goals.{After-keep_listing}
use Rattle.mount_calls.proofs.clients.Clients.keep_listing.Goals as goal

becomes : (c : After-keep_listing) → Becomes c.args.self.now c.args.client c.unwrap.result.now (get nat_cmp (c.get_mut.follows.lender c.keep_listing.new.self)) c.keep_listing.new.self
becomes c = record { was = search rules; is = search rules; others = search rules }

pub returns : goal.returns
returns c = client-changes _ _ _ _ _ _ (becomes (goal.at.returns c).After-keep_listing) c.keep_listing.ensures (λ b d o l there at. at) refl

pub invariant_of-self : goal.invariant_of-self
invariant_of-self c = counts-changed _ _ _ _ _ (becomes (goal.at.invariant_of-self c).After-keep_listing) c.args.descriptor (with_listing c.args.listing) (on-listing c.args.listing) c.keep_listing.ensures
