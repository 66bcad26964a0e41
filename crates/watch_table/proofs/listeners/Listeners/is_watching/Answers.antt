use Rattle.std.proofs.Common.{arith, ap, subst, sym, ◌∙◌, Some}
use Rattle.plain_model.specs.Machine.{watches_of}
use Rattle.watch_table.specs.Clients.{IsPlace}
use Rattle.watch_table.specs.Listening.{is_on}
use Rattle.watch_table.proofs.Clients.{place-below, place-instance_of}
use Rattle.watch_table.proofs.listeners.Listeners.is_watching.Goals as goal

pub index-requires : goal.index-requires
index-requires g c =
    let items = c.self.inside.listeners.items in
    let below = place-below c.args.client c.in-Some.i items (subst (IsPlace c.args.client c.in-Some.i)
    (sym c.self.view_is) c.in-Some.ensures) in
    let len = c.self.inside.listeners.ok in
    omega arith

pub returns-in-Some : goal.returns-in-Some
returns-in-Some g c =
    let items = c.self.inside.listeners.items in
    let place = subst (IsPlace c.args.client c.in-Some.i) (sym c.self.view_is) c.in-Some.ensures in
    let is = place-instance_of c.args.client c.in-Some.i items c.index.result.now place ∙ ap Some (sym c.index.ensures) in
    rw (← c.self.view_is) (c.is_on.ensures ∙ sym (ap (λ o. is_on c.args.object (watches_of o)) is))
