use Rattle.std.proofs.Common.{arith, ap, subst, sym, ◌∙◌, Some}
use Rattle.watch_table.specs.Clients.{IsPlace}
use Rattle.watch_table.proofs.Clients.{place-below, place-instance_of, place-filter, rising-remove}
use Rattle.watch_table.proofs.listeners.Listeners.detach.Goals as goal

pub remove-requires : goal.remove-requires
remove-requires g c =
    let items = c.self.inside.listeners.items in
    let below = place-below c.args.client c.place_of-i.result items
    (subst (IsPlace c.args.client c.place_of-i.result) (sym c.self.view_is) c.place_of-i.ensures) in
    let len = c.self.inside.listeners.ok in
    omega arith

pub invariant_of-self : goal.invariant_of-self
invariant_of-self g c = rw c.remove.ensures.items (rising-remove c.place_of-i.result c.self.inside.listeners.items c.self.invariant)

pub returns-clause-gone : goal.returns-clause-gone
returns-clause-gone g c =
    let items = c.self.inside.listeners.items in
    let place = subst (IsPlace c.args.client c.place_of-i.result) (sym c.self.view_is) c.place_of-i.ensures in
    rw (← c.self.view_is) (c.remove.ensures.items ∙ sym (place-filter c.args.client c.place_of-i.result items place c.self.invariant))

pub returns-clause-instance : goal.returns-clause-instance
returns-clause-instance g c =
    let items = c.self.inside.listeners.items in
    let place = subst (IsPlace c.args.client c.place_of-i.result) (sym c.self.view_is) c.place_of-i.ensures in
    rw (← c.self.view_is) (place-instance_of c.args.client c.place_of-i.result items c.remove.result place
    ∙ ap Some (sym c.remove.ensures.value))
