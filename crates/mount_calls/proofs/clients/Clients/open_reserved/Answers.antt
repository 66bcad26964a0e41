use Rattle.std.proofs.Common.{◌≡◌, ℕ, Option, Some, rules, refl, sym, subst, ◌∙◌}
use Rattle.open_handles.specs.declared.descriptors.Descriptors.{Descriptors}
use Rattle.open_handles.specs.Listings.{HasRoom}
use Rattle.std.specs.BTreeMap.{get}
use Rattle.std.specs.Ordering.{nat_cmp}
use Rattle.mount_calls.proofs.Holding.{Becomes, client-changes, counts-opens-file, held-now}
use Rattle.mount_calls.proofs.clients.Clients.open_reserved.Goals.{After-open_reserved}
use Rattle.mount_calls.proofs.clients.Clients.open_reserved.Goals as goal

becomes : (c : After-open_reserved) → Becomes c.args.self.now c.args.client c.unwrap.result.now (get nat_cmp (c.get_mut.follows.lender c.open_reserved.new.self)) c.open_reserved.new.self
becomes c = record { was = search rules; is = search rules; others = search rules }

-- there is room for the file
room : (ds e : Descriptors) (d : ℕ) (o : Option Descriptors) → o ≡ Some ds → o ≡ Some e → HasRoom ds d → HasRoom e d
room ds e d o was is h =
    let both : Some ds ≡ Some e = sym was ∙ is in
    let same : ds ≡ e = cc in
    subst (λ x. HasRoom x d) same h

pub open_reserved-requires : goal.open_reserved-requires
open_reserved-requires c = room c.requires.room.descriptors c.unwrap.result.now c.args.descriptor _ c.requires.room.attached (search rules) c.requires.room.place

pub invariant_of-self : goal.invariant_of-self
invariant_of-self c =
    let x = becomes (goal.at.invariant_of-self c).After-open_reserved in
    let here = room c.requires.room.descriptors c.unwrap.result.now c.args.descriptor _ c.requires.room.attached x.was c.requires.room.place in
    counts-opens-file _ _ _ _ _ x c.args.descriptor here.lowest.free c.args.file c.hold_file.new.files c.open_reserved.ensures
    (held-now c.args.self.now.files c.hold_file.new.files c.args.file.source c.hold_file.result (c.hold_file.ensures.succeeds c.requires.room.spare c.requires.countable) c.hold_file.ensures.ok)

pub returns : goal.returns
returns c =
    let x = becomes (goal.at.returns c).After-open_reserved in
    let here = room c.requires.room.descriptors c.unwrap.result.now c.args.descriptor _ c.requires.room.attached x.was c.requires.room.place in
    client-changes _ _ _ _ _ _ x
    (record { lowest = here.lowest; opens = c.open_reserved.ensures; err = tt })
    (λ b d o l there at. at) refl
