use Rattle.std.proofs.Common.{◌≡◌, arith, ap, subst, sym, ◌∙◌, set, Some}
use Rattle.open_handles.specs.TrackedHandles.{TrackedTable, AreTracked, IsPlace, SetsTracked, slot_uses, tracked_by, uses}
use Rattle.open_handles.proofs.TrackedClients.{place-below}
use Rattle.open_handles.proofs.TrackedUses.{own-length, written-lawful, written-sets, written-uses}
use Rattle.open_handles.proofs.tracked_handles.TrackedHandles.open.Goals as goal

pub index_mut-tracked-requires : goal.index_mut-tracked-requires
index_mut-tracked-requires c =
    let place = subst (IsPlace c.args.client c.in-Some.i) (sym c.self.view_is) c.in-Some.ensures in
    let below = place-below c.args.client c.in-Some.i c.self.inside.clients.items place in
    let len = c.self.inside.clients.ok in
    omega arith

pub set-requires : goal.set-requires
set-requires c =
    let place = subst (IsPlace c.args.client c.in-Some.i) (sym c.self.view_is) c.in-Some.ensures in
    let long = own-length c.args.client c.in-Some.i c.args.descriptor c.self.inside.clients.items c.index_mut-tracked.result.now place c.self.invariant c.index_mut-tracked.ensures.value in
    omega arith

pub invariant_of-self : goal.invariant_of-self
invariant_of-self c =
    let items = c.self.inside.clients.items in
    let place = subst (IsPlace c.args.client c.in-Some.i) (sym c.self.view_is) c.in-Some.ensures in
    subst (λ (k : TrackedTable). AreTracked (set items c.in-Some.i k)) (sym c.set.ensures)
    (written-lawful c.args.client c.in-Some.i c.args.descriptor items c.index_mut-tracked.result.now place c.self.invariant c.index_mut-tracked.ensures.value (Some c.args.handle))

pub returns-in-Some-clause-sets : goal.returns-in-Some-clause-sets
returns-in-Some-clause-sets c =
    let items = c.self.inside.clients.items in
    let place = subst (IsPlace c.args.client c.in-Some.i) (sym c.self.view_is) c.in-Some.ensures in
    rw (← c.self.view_is) (subst (λ (k : TrackedTable). SetsTracked items (set items c.in-Some.i k) c.args.client c.args.descriptor (Some c.args.handle)) (sym c.set.ensures)
    (written-sets c.args.client c.in-Some.i c.args.descriptor items c.index_mut-tracked.result.now place c.self.invariant c.index_mut-tracked.ensures.value (Some c.args.handle) c.requires.slot))

pub returns-in-Some-clause-uses : goal.returns-in-Some-clause-uses
returns-in-Some-clause-uses c n =
    let items = c.self.inside.clients.items in
    let place = subst (IsPlace c.args.client c.in-Some.i) (sym c.self.view_is) c.in-Some.ensures in
    let changed = written-uses c.args.client c.in-Some.i c.args.descriptor items c.index_mut-tracked.result.now place c.self.invariant c.index_mut-tracked.ensures.value (Some c.args.handle) c.requires.slot n in
    let free : slot_uses n (tracked_by items c.args.client c.args.descriptor) ≡ 0 = ap (slot_uses n) (ap (λ ks. tracked_by ks c.args.client c.args.descriptor) c.self.view_is ∙ c.requires.free) in
    let same = ap (λ (k : TrackedTable). uses (set items c.in-Some.i k) n) c.set.ensures in
    let was = ap (λ ks. uses ks n) c.self.view_is in
    omega arith
