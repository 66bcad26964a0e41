use Rattle.std.proofs.Common.{◌≡◌, ◌≤◌, arith, sym, ap, subst, ◌∙◌, length, map, ◌++◌, ◌∷◌, [], ◌+◌, refl, false}
use Rattle.std.proofs.lemmas.List.{length-map}
use Rattle.ov_base.specs.declared.node_id.NodeId.TheVariants.{New}
use Rattle.plain_model.specs.Watching.{EVENTS, Watch, Instance}
use Rattle.plain_model.proofs.Masks.{and-within}
use Rattle.watch_table.specs.Listening.{IsInstance, rearmed}
use Rattle.watch_table.proofs.Arming.{number_on-given, rearmed-IsInstance, arms-IsInstance, room-left, written-over}
use Rattle.watch_table.proofs.listener.Listener.arm.Goals as goal

pub invariant_of-self : goal.invariant_of-self
invariant_of-self g c =
    let ws = c.self.inside.watches.items in
    let again = rearmed (New c.args.object) c.args.mask in
    let made : c.rearm.new.watches ≡ map again ws = c.rearm.ensures ∙ ap (map again) c.as_mut_slice.ensures.value in
    let old = sym (ap length c.as_slice.ensures.value) ∙ c.as_slice.ensures.len in
    let kept = written-over c.self.inside.watches.len c.rearm.new.watches ws old (ap length made ∙ length-map ws again ∙ old) ∙ made in
    (rw kept (rearmed-IsInstance _ (New c.args.object) c.args.mask c.self.invariant.0), c.self.invariant.1)

pub push_reserved-requires : goal.push_reserved-requires
push_reserved-requires g c =
    let e : Instance = record {
      client = c.self.inside.client;
      tags = map (λ h. h.tag) c.self.inside.hooks.items;
      watches = c.self.inside.watches.items;
      armed = c.self.inside.armed;
      queue = c.self.inside.queue;
    } in
    let slot = rw (← c.self.view_is) at c.requires.slot in
    let allowed = rw (← c.self.view_is) at c.requires.allowed in
    let none = rw c.as_slice.ensures.value at (sym c.number_on.ensures ∙ c.in_default.is) in
    let w : Watch = record { number = e.armed + 1; slot = c.args.slot; node = New c.args.object; mask = 0; once = false } in
    let few = room-left e w (arms-IsInstance e w c.args.mask c.self.invariant.0 slot allowed refl none refl) in
    let room = c.self.invariant.1 in
    let len = sym (ap length c.as_slice.ensures.value) ∙ c.as_slice.ensures.len in
    omega arith

pub invariant_of-self-2 : goal.invariant_of-self-2
invariant_of-self-2 g c =
    let e : Instance = record {
      client = c.self.inside.client;
      tags = map (λ h. h.tag) c.self.inside.hooks.items;
      watches = c.self.inside.watches.items;
      armed = c.self.inside.armed;
      queue = c.self.inside.queue;
    } in
    let with : Watch → Type 0 = λ w. IsInstance (record e { armed = e.armed + 1; watches = e.watches ++ w ∷ [] }) in
    let slot = rw (← c.self.view_is) at c.requires.slot in
    let allowed = rw (← c.self.view_is) at c.requires.allowed in
    let none = rw c.as_slice.ensures.value at (sym c.number_on.ensures ∙ c.in_default.is) in
    let more = subst with (sym c.new.ensures) (arms-IsInstance e _ c.args.mask c.self.invariant.0 slot allowed refl none
    (and-within c.args.mask EVENTS)) in
    (rw c.push_reserved.ensures.items more, rw c.push_reserved.ensures.capacity c.self.invariant.1)

pub returns-in-Some-clause-fits : goal.returns-in-Some-clause-fits
returns-in-Some-clause-fits g c =
    let e = c.self.invariant.0 in
    let at = rw c.as_slice.ensures.value at (sym c.number_on.ensures ∙ c.in-Some.is) in
    let given = number_on-given _ c.self.inside.armed (New c.args.object) c.self.inside.watches.items e.watches c.in-Some.number at in
    let few : c.self.inside.armed ≤ 2147483647 = e.few in
    omega (arith, given, few)
