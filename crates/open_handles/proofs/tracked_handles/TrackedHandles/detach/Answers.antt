use Rattle.std.proofs.Common.{◌≡◌, ℕ, arith, ap, subst, sym, ◌∙◌, None, nat_eq}
use Rattle.std.specs.List.{list_any}
use Rattle.open_handles.specs.TrackedHandles.{AreTracked, IsPlace, clients_of, tracked_by, uses}
use Rattle.open_handles.proofs.TrackedClients.{absent-filter, attached-absent, attached-filter, place-below, remove-clients}
use Rattle.open_handles.proofs.TrackedUses.{goes-lawful, goes-tracked, goes-uses}
use Rattle.open_handles.proofs.tracked_handles.TrackedHandles.detach.Goals as goal

pub remove-requires : goal.remove-requires
remove-requires c =
    let place = subst (IsPlace c.args.client c.in-Some.i) (sym c.self.view_is) c.in-Some.ensures in
    let below = place-below c.args.client c.in-Some.i c.self.inside.clients.items place in
    let len = c.self.inside.clients.ok in
    omega arith

pub invariant_of-self : goal.invariant_of-self
invariant_of-self c =
    let place = subst (IsPlace c.args.client c.in-Some.i) (sym c.self.view_is) c.in-Some.ensures in
    subst AreTracked (sym c.remove.ensures.items) (goes-lawful c.args.client c.in-Some.i c.self.inside.clients.items place c.self.invariant)

pub returns-in-Some-clause-clients : goal.returns-in-Some-clause-clients
returns-in-Some-clause-clients c =
    let place = subst (IsPlace c.args.client c.in-Some.i) (sym c.self.view_is) c.in-Some.ensures in
    rw (← c.self.view_is) (ap clients_of c.remove.ensures.items
    ∙ remove-clients c.args.client c.in-Some.i c.self.inside.clients.items place c.self.invariant.rising)

pub returns-in-Some-clause-attached : goal.returns-in-Some-clause-attached
returns-in-Some-clause-attached c b =
    let items = c.self.inside.clients.items in
    let place = subst (IsPlace c.args.client c.in-Some.i) (sym c.self.view_is) c.in-Some.ensures in
    let left = ap clients_of c.remove.ensures.items ∙ remove-clients c.args.client c.in-Some.i items place c.self.invariant.rising in
    rw (← c.self.view_is) (ap (list_any (nat_eq b)) left ∙ attached-filter (clients_of items) c.args.client b)

pub returns-in-Some-clause-handles : goal.returns-in-Some-clause-handles
returns-in-Some-clause-handles c b d =
    let items = c.self.inside.clients.items in
    let place = subst (IsPlace c.args.client c.in-Some.i) (sym c.self.view_is) c.in-Some.ensures in
    let none : (e : ℕ) → tracked_by items c.args.client e ≡ None = λ e. ap (λ ks. tracked_by ks c.args.client e) c.self.view_is ∙ c.requires e in
    rw (← c.self.view_is) (ap (λ ks. tracked_by ks b d) c.remove.ensures.items ∙ goes-tracked c.args.client c.in-Some.i items place c.self.invariant none b d)

pub returns-in-Some-clause-uses : goal.returns-in-Some-clause-uses
returns-in-Some-clause-uses c n =
    let items = c.self.inside.clients.items in
    let place = subst (IsPlace c.args.client c.in-Some.i) (sym c.self.view_is) c.in-Some.ensures in
    let none : (e : ℕ) → tracked_by items c.args.client e ≡ None = λ e. ap (λ ks. tracked_by ks c.args.client e) c.self.view_is ∙ c.requires e in
    rw (← c.self.view_is) (ap (λ ks. uses ks n) c.remove.ensures.items ∙ goes-uses c.args.client c.in-Some.i items place c.self.invariant none n)

pub returns-in_default-clause-clients : goal.returns-in_default-clause-clients
returns-in_default-clause-clients c = sym (absent-filter c.args.client c.args.self.now (attached-absent c.args.client c.args.self.now c.in_default.ensures))
