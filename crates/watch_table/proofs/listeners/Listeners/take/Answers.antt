use Rattle.std.proofs.Common.{arith, ap, subst, sym, ◌∙◌, Some, set, drop, take}
use Rattle.plain_model.specs.Watching.{Instance}
use Rattle.plain_model.specs.Replies.{queue_of}
use Rattle.watch_table.specs.Clients.{IsPlace, AreRising}
use Rattle.watch_table.proofs.Clients.{place-below, place-instance_of, place-at_client, clients-set}
use Rattle.watch_table.proofs.Outcomes.{OnOk-map, IfOk-map}
use Rattle.watch_table.proofs.listeners.Listeners.take.Goals as goal

pub index_mut-listener-requires : goal.index_mut-listener-requires
index_mut-listener-requires g c =
    let items = c.self.inside.listeners.items in
    let below = place-below c.args.client c.place_of-i.result items
    (subst (IsPlace c.args.client c.place_of-i.result) (sym c.self.view_is) c.place_of-i.ensures) in
    let len = c.self.inside.listeners.ok in
    omega arith

pub invariant_of-self : goal.invariant_of-self
invariant_of-self g c =
    let same = c.take.ensures.client ∙ ap (λ (e : Instance). e.client) c.index_mut-listener.ensures.value in
    subst AreRising (sym
    (clients-set c.place_of-i.result c.self.inside.listeners.items c.index_mut-listener.result.now c.take.new.self same)) c.self.invariant

pub returns-clause-taken : goal.returns-clause-taken
returns-clause-taken g c =
    let items = c.self.inside.listeners.items in
    let place = subst (IsPlace c.args.client c.place_of-i.result) (sym c.self.view_is) c.place_of-i.ensures in
    let is = place-instance_of c.args.client c.place_of-i.result items c.index_mut-listener.result.now place
    ∙ ap Some (sym c.index_mut-listener.ensures.value) in
    rw (← c.self.view_is) (IfOk-map c.take.result (λ notices h. h ∙ ap (λ o. take c.args.count (queue_of o)) (sym is)) c.take.ensures.taken)

pub returns-clause-left : goal.returns-clause-left
returns-clause-left g c =
    let items = c.self.inside.listeners.items in
    let i = c.place_of-i.result in
    let d = c.index_mut-listener.result.now in
    let f : Instance → Instance = λ e. record e { queue = drop c.args.count e.queue } in
    let place = subst (IsPlace c.args.client c.place_of-i.result) (sym c.self.view_is) c.place_of-i.ensures in
    rw (← c.self.view_is) (OnOk-map c.take.result (λ h. ap (λ (x : Instance). set items i x) (h ∙ ap f c.index_mut-listener.ensures.value)
    ∙ sym (place-at_client c.args.client f i items d place c.self.invariant)) c.take.ensures.left)
