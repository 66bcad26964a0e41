use Rattle.std.proofs.Common.{arith, ap, subst, sym, ◌∙◌, set, refl, None}
use Rattle.open_handles.specs.TrackedHandles.{TrackedTable, AreTracked, IsPlace, SetsTracked, slot_uses, uses}
use Rattle.open_handles.proofs.TrackedClients.{place-below}
use Rattle.open_handles.proofs.TrackedUses.{absent-tracked, own-opened, written-lawful, freed-sets, freed-uses}
use Rattle.open_handles.proofs.tracked_handles.TrackedHandles.close.Goals as goal

pub index_mut-tracked-requires : goal.index_mut-tracked-requires
index_mut-tracked-requires c =
    let place = subst (IsPlace c.args.client c.in-Some.i) (sym c.self.view_is) c.in-Some.ensures in
    let below = place-below c.args.client c.in-Some.i c.self.inside.clients.items place in
    let len = c.self.inside.clients.ok in
    omega arith

pub invariant_of-self : goal.invariant_of-self
invariant_of-self c =
    let items = c.self.inside.clients.items in
    let place = subst (IsPlace c.args.client c.in-Some.i) (sym c.self.view_is) c.in-Some.ensures in
    subst (λ (k : TrackedTable). AreTracked (set items c.in-Some.i k)) (sym c.take.ensures.slot)
    (written-lawful c.args.client c.in-Some.i c.args.descriptor items c.index_mut-tracked.result.now place c.self.invariant c.index_mut-tracked.ensures.value None)

pub returns-in-Some-clause-value : goal.returns-in-Some-clause-value
returns-in-Some-clause-value c =
    let place = subst (IsPlace c.args.client c.in-Some.i) (sym c.self.view_is) c.in-Some.ensures in
    rw (← c.self.view_is) (c.take.ensures.value
    ∙ own-opened c.args.client c.in-Some.i c.args.descriptor c.self.inside.clients.items c.index_mut-tracked.result.now place c.self.invariant c.index_mut-tracked.ensures.value)

pub returns-in-Some-clause-sets : goal.returns-in-Some-clause-sets
returns-in-Some-clause-sets c =
    let items = c.self.inside.clients.items in
    let place = subst (IsPlace c.args.client c.in-Some.i) (sym c.self.view_is) c.in-Some.ensures in
    rw (← c.self.view_is) (subst (λ (k : TrackedTable). SetsTracked items (set items c.in-Some.i k) c.args.client c.args.descriptor None) (sym c.take.ensures.slot)
    (freed-sets c.args.client c.in-Some.i c.args.descriptor items c.index_mut-tracked.result.now place c.self.invariant c.index_mut-tracked.ensures.value))

pub returns-in-Some-clause-uses : goal.returns-in-Some-clause-uses
returns-in-Some-clause-uses c n =
    let items = c.self.inside.clients.items in
    let place = subst (IsPlace c.args.client c.in-Some.i) (sym c.self.view_is) c.in-Some.ensures in
    let changed = freed-uses c.args.client c.in-Some.i c.args.descriptor items c.index_mut-tracked.result.now place c.self.invariant c.index_mut-tracked.ensures.value n in
    let taken = ap (slot_uses n) (c.take.ensures.value
    ∙ own-opened c.args.client c.in-Some.i c.args.descriptor items c.index_mut-tracked.result.now place c.self.invariant c.index_mut-tracked.ensures.value) in
    let same = ap (λ (k : TrackedTable). uses (set items c.in-Some.i k) n) c.take.ensures.slot in
    let was = ap (λ ks. uses ks n) c.self.view_is in
    omega arith

pub returns-in-None-clause-value : goal.returns-in-None-clause-value
returns-in-None-clause-value c = sym (absent-tracked c.args.client c.args.descriptor c.args.self.now c.in-None.ensures)

pub returns-in-None-clause-sets : goal.returns-in-None-clause-sets
returns-in-None-clause-sets c = record {
  here = absent-tracked c.args.client c.args.descriptor c.args.self.now c.in-None.ensures;
  others = λ b e off. refl;
  clients = refl;
}
