use Rattle.std.proofs.Common.{rules, refl}
use Rattle.std.specs.BTreeMap.{get}
use Rattle.std.specs.Ordering.{nat_cmp}
use Rattle.mount_calls.proofs.Serving.{lowest-slot}
use Rattle.mount_calls.proofs.Holding.{Becomes, client-changes}
use Rattle.mount_calls.proofs.clients.Clients.reserve_file.Goals.{After-reserve}
use Rattle.mount_calls.proofs.clients.Clients.reserve_file.Goals as goal

becomes : (c : After-reserve) → Becomes c.args.self.now c.args.client c.unwrap.result.now (get nat_cmp (c.get_mut.follows.lender c.reserve.new.self)) c.reserve.new.self
becomes c = record { was = search rules; is = search rules; others = search rules }

pub reserve-requires : goal.reserve-requires
reserve-requires c = lowest-slot c.args.self.now c.args.client c.args.descriptor c.unwrap.result.now (search rules) c.requires.free

pub returns-in_err-reserve-clause-same : goal.returns-in_err-reserve-clause-same
returns-in_err-reserve-clause-same c = client-changes _ _ _ _ _ _ (becomes (goal.at.returns-in_err-reserve-clause-same c).After-reserve) c.reserve.ensures.same (λ b d o l there at. at) refl

pub returns-in_err-reserve-2-clause-same : goal.returns-in_err-reserve-2-clause-same
returns-in_err-reserve-2-clause-same c = client-changes _ _ _ _ _ _ (becomes (goal.at.returns-in_err-reserve-2-clause-same c).After-reserve) c.reserve.ensures.same (λ b d o l there at. at) refl

pub returns-clause-same : goal.returns-clause-same
returns-clause-same c = client-changes _ _ _ _ _ _ (becomes (goal.at.returns-clause-same c).After-reserve) c.reserve.ensures.same (λ b d o l there at. at) refl

pub returns-clause-room : goal.returns-clause-room
returns-clause-room c = record { descriptors = c.reserve.new.self; attached = search rules; place = c.in_ok-reserve.ensures.room; spare = search rules }
