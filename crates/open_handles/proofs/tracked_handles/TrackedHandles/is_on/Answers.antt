use Rattle.std.proofs.Common.{ap, sym, ◌∙◌, subst}
use Rattle.std.specs.List.{list_any}
use Rattle.open_handles.specs.TrackedHandles.{IsOn, slot_is_on}
use Rattle.open_handles.proofs.TrackedWays.{found-handle, handle-found}
use Rattle.open_handles.proofs.tracked_handles.TrackedHandles.is_on.Goals as goal

pub returns : goal.returns
returns c =
    let items = c.self.inside.clients.items in
    let answer = c.any_on.ensures ∙ ap (list_any (λ k. list_any (slot_is_on c.args.object) k.slots)) c.as_slice.ensures.value in (
      (λ yes. subst (λ ks. IsOn ks c.args.object) c.self.view_is (handle-found c.args.object items c.self.invariant (sym answer ∙ yes))),
      (λ on. answer ∙ found-handle c.args.object items (subst (λ ks. IsOn ks c.args.object) (sym c.self.view_is) on)),
    )
