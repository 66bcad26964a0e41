use Rattle.std.proofs.Common.{arith, ap, subst, sym, ◌∙◌, List, Option}
use Rattle.open_handles.specs.Descriptors.{opened}
use Rattle.open_handles.specs.TrackedHandles.{TrackedTable, IsPlace}
use Rattle.open_handles.specs.declared.tracked_client.TrackedHandle.{TrackedHandle}
use Rattle.open_handles.proofs.TrackedClients.{place-below, place-slots}
use Rattle.open_handles.proofs.TrackedUses.{absent-tracked}
use Rattle.open_handles.proofs.tracked_handles.TrackedHandles.get.Goals as goal

pub index-requires : goal.index-requires
index-requires c =
    let place = subst (IsPlace c.args.client c.in-Some.i) (sym c.self.view_is) c.in-Some.ensures in
    let below = place-below c.args.client c.in-Some.i c.self.inside.clients.items place in
    let len = c.self.inside.clients.ok in
    omega arith

pub returns-in-Some : goal.returns-in-Some
returns-in-Some c =
    let items = c.self.inside.clients.items in
    let place = subst (IsPlace c.args.client c.in-Some.i) (sym c.self.view_is) c.in-Some.ensures in
    let own = ap (λ (k : TrackedTable). k.slots) c.index.ensures ∙ sym (place-slots c.args.client c.in-Some.i items c.index.result.now place) in
    rw (← c.self.view_is) (c.get.ensures ∙ ap (λ (xs : List (Option TrackedHandle)). opened xs c.args.descriptor) own)

pub returns-in-None : goal.returns-in-None
returns-in-None c = sym (absent-tracked c.args.client c.args.descriptor c.args.self.now c.in-None.ensures)
