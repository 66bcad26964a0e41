use Rattle.std.proofs.Common.{◌≡◌, arith, ap, false, subst, sym, ◌∙◌, MatchOption, Some}
use Rattle.std.specs.List.{list_any}
use Rattle.std.proofs.lemmas.Int.{to_z-of_z}
use Rattle.plain_model.specs.Machine.{watches_of}
use Rattle.plain_model.specs.Watching.{is_numbered}
use Rattle.watch_table.specs.Clients.{IsPlace, AreOnlyOn}
use Rattle.watch_table.proofs.Clients.{place-below, place-instance_of}
use Rattle.watch_table.proofs.listeners.Listeners.object_of.Goals as goal

pub index-requires : goal.index-requires
index-requires g c =
    let items = c.self.inside.listeners.items in
    let below = place-below c.args.client c.in-Some.i items (subst (IsPlace c.args.client c.in-Some.i)
    (sym c.self.view_is) c.in-Some.ensures) in
    let len = c.self.inside.listeners.ok in
    omega arith

pub returns-in-Some : goal.returns-in-Some
returns-in-Some g c =
    let items = c.self.inside.listeners.items in
    let place = subst (IsPlace c.args.client c.in-Some.i) (sym c.self.view_is) c.in-Some.ensures in
    let is = place-instance_of c.args.client c.in-Some.i items c.index.result.now place ∙ ap Some (sym c.index.ensures) in
    let fits = c.ranges.number in
    let found = simp (to_z-of_z, fits) at c.object_of.ensures in
    rw (← c.self.view_is) (subst (λ o. MatchOption c.object_of.result (list_any (is_numbered c.args.number) (watches_of o) ≡ false)
    (λ object. AreOnlyOn c.args.number object (watches_of o))) (sym is) found)
