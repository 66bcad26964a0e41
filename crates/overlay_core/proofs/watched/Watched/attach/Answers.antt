use Rattle.std.proofs.Common.{arith, ◌≡◌, ℕ, All, map, sym, ap, subst, true, ◌<◌}
use Rattle.std.proofs.lemmas.List.{length-map}
use Rattle.open_handles.specs.TrackedHandles.{is_tracked}
use Rattle.mount_calls.specs.declared.mount.Mount.{Mount}
use Rattle.mount_calls.proofs.Coming.{back-attached}
use Rattle.overlay_core.proofs.Arriving.{clients-below, goes-attached, taken-back, tracked-below}
use Rattle.overlay_core.proofs.watched.Watched.attach.Goals as goal

pub attach-requires-2-clause-opens : goal.attach-requires-2-clause-opens
attach-requires-2-clause-opens g c =
    let came = rw c.in-Ok-Ok.field-0-is at c.in-Ok-Ok.ensures.clients in
    subst (λ n. (k : ℕ) → is_tracked c.args.self.now.notifier.handles k ≡ true → k < n) (sym came.next)
    (tracked-below c.args.self.now.mount c.args.self.now.notifier c.requires.state)

pub attach-requires-2-clause-watches : goal.attach-requires-2-clause-watches
attach-requires-2-clause-watches g c =
    let came = rw c.in-Ok-Ok.field-0-is at c.in-Ok-Ok.ensures.clients in
    subst (λ n. All (λ e. e.client < n) c.args.self.now.notifier.instances) (sym came.next)
    (clients-below c.args.self.now.mount c.args.self.now.notifier c.requires.state)

pub returns-in-Ok-clause-attached : goal.returns-in-Ok-clause-attached
returns-in-Ok-clause-attached g c =
    let few = c.in-Ok.ensures.few in
    let tags = map (λ h. h.tag) c.args.hooks.items in
    let long = length-map c.args.hooks.items (λ h. h.tag) in
    goes-attached g.R.Rule.shows c.args.self.now.mount c.attach.new.self c.args.self.now.notifier c.attach-2.new.self c.in-Ok-Ok.client tags
    (rw c.in-Ok-Ok.field-0-is at c.in-Ok-Ok.ensures.room)
    (omega arith)
    (rw c.in-Ok-Ok.field-0-is at c.in-Ok-Ok.ensures.attached)
    (ap (λ (m : Mount). m.layers) c.attach.ensures.only)
    c.in-Ok.ensures.joins c.lawful.ensures.known

pub returns-in-Err-attach-clause-stays : goal.returns-in-Err-attach-clause-stays
returns-in-Err-attach-clause-stays g c =
    let came = rw c.in-Ok-Ok.field-0-is at c.in-Ok-Ok.ensures.clients in
    taken-back c.args.self.now.mount c.attach.new.self c.take_back.new.self c.args.self.now.notifier c.attach-2.new.self c.in-Ok-Ok.client
    c.attach.ensures.only c.take_back.ensures.only came c.take_back.ensures.clients c.in-Err-attach.ensures.same

pub returns-in-Err-attach-clause-kept : goal.returns-in-Err-attach-clause-kept
returns-in-Err-attach-clause-kept g c =
    let came = rw c.in-Ok-Ok.field-0-is at c.in-Ok-Ok.ensures.clients in
    back-attached c.args.self.now.mount.clients c.attach.new.self.clients c.take_back.new.self.clients c.in-Ok-Ok.client came
    c.take_back.ensures.clients
