use Rattle.std.proofs.Common.{◌≡◌, arith, ap, subst, sym, ◌∙◌, Some, None, set}
use Rattle.ov_base.specs.declared.node_id.NodeId.TheVariants.{New}
use Rattle.plain_model.specs.Watching.{Instance}
use Rattle.plain_model.specs.Machine.{hooks_of, watches_of, armed_of, watch_on}
use Rattle.plain_model.specs.Changes.{armed_on}
use Rattle.plain_model.specs.Replies.{number_of, next_number}
use Rattle.watch_table.specs.Clients.{IsPlace, AreRising}
use Rattle.watch_table.specs.Listening.{slot_refusal, arm_refusal}
use Rattle.watch_table.proofs.Clients.{place-below, place-instance_of, place-at_client, clients-set, armed-client}
use Rattle.watch_table.proofs.listeners.Listeners.arm.Goals as goal

pub index_mut-listener-requires : goal.index_mut-listener-requires
index_mut-listener-requires g c =
    let items = c.self.inside.listeners.items in
    let below = place-below c.args.client c.place_of-i.result items
    (subst (IsPlace c.args.client c.place_of-i.result) (sym c.self.view_is) c.place_of-i.ensures) in
    let len = c.self.inside.listeners.ok in
    omega arith

pub arm-requires-clause-slot : goal.arm-requires-clause-slot
arm-requires-clause-slot g c =
    let items = c.self.inside.listeners.items in
    let place = subst (IsPlace c.args.client c.place_of-i.result) (sym c.self.view_is) c.place_of-i.ensures in
    let is = place-instance_of c.args.client c.place_of-i.result items c.index_mut-listener.result.now place
    ∙ ap Some (sym c.index_mut-listener.ensures.value) in
    subst (λ o. slot_refusal (hooks_of o) c.args.slot c.args.mask ≡ None) is (rw (← c.self.view_is) at c.requires.slot)

pub arm-requires-clause-allowed : goal.arm-requires-clause-allowed
arm-requires-clause-allowed g c =
    let items = c.self.inside.listeners.items in
    let place = subst (IsPlace c.args.client c.place_of-i.result) (sym c.self.view_is) c.place_of-i.ensures in
    let is = place-instance_of c.args.client c.place_of-i.result items c.index_mut-listener.result.now place
    ∙ ap Some (sym c.index_mut-listener.ensures.value) in
    subst (λ o. arm_refusal (watches_of o) (armed_of o) c.args.slot (New c.args.object) ≡ None) is
    (rw (← c.self.view_is) at c.requires.allowed)

pub invariant_of-self : goal.invariant_of-self
invariant_of-self g c =
    let old = c.index_mut-listener.result.now in
    let same = ap (λ (e : Instance). e.client) c.arm.ensures.arms ∙ armed-client c.args.slot c.args.mask (New c.args.object) old
    ∙ ap (λ (e : Instance). e.client) c.index_mut-listener.ensures.value in
    subst AreRising (sym (clients-set c.place_of-i.result c.self.inside.listeners.items old c.arm.new.self same)) c.self.invariant

pub returns-clause-number : goal.returns-clause-number
returns-clause-number g c =
    let items = c.self.inside.listeners.items in
    let place = subst (IsPlace c.args.client c.place_of-i.result) (sym c.self.view_is) c.place_of-i.ensures in
    let is = place-instance_of c.args.client c.place_of-i.result items c.index_mut-listener.result.now place
    ∙ ap Some (sym c.index_mut-listener.ensures.value) in
    rw (← c.self.view_is) (c.arm.ensures.number ∙ ap (λ o. number_of (watch_on (watches_of o) (Some (New c.args.object))) (next_number o))
    (sym is))

pub returns-clause-arms : goal.returns-clause-arms
returns-clause-arms g c =
    let items = c.self.inside.listeners.items in
    let i = c.place_of-i.result in
    let f : Instance → Instance = armed_on c.args.slot (Some (New c.args.object)) c.args.mask in
    let place = subst (IsPlace c.args.client c.place_of-i.result) (sym c.self.view_is) c.place_of-i.ensures in
    rw (← c.self.view_is) (ap (λ (x : Instance). set items i x) (c.arm.ensures.arms ∙ ap f c.index_mut-listener.ensures.value)
    ∙ sym (place-at_client c.args.client f i items c.index_mut-listener.result.now place c.self.invariant))
