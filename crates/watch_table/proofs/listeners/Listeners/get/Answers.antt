use Rattle.std.proofs.Common.{arith, ap, subst, sym, ◌∙◌, Some}
use Rattle.watch_table.specs.Clients.{IsPlace}
use Rattle.watch_table.proofs.Clients.{place-below, place-instance_of}
use Rattle.watch_table.proofs.listeners.Listeners.get.Goals as goal

pub index-requires : goal.index-requires
index-requires g c =
    let items = c.self.inside.listeners.items in
    let below = place-below c.args.client c.place_of-i.result items
    (subst (IsPlace c.args.client c.place_of-i.result) (sym c.self.view_is) c.place_of-i.ensures) in
    let len = c.self.inside.listeners.ok in
    omega arith

pub returns : goal.returns
returns g c =
    let items = c.self.inside.listeners.items in
    let place = subst (IsPlace c.args.client c.place_of-i.result) (sym c.self.view_is) c.place_of-i.ensures in
    rw (← c.self.view_is) (place-instance_of c.args.client c.place_of-i.result items c.index.result.now place
    ∙ ap Some (sym c.index.ensures))
