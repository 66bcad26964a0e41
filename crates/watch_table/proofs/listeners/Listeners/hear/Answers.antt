use Rattle.std.proofs.Common.{arith, ap, refl, subst, sym, ◌∙◌, true}
use Rattle.plain_model.specs.Watching.{Instance}
use Rattle.watch_table.specs.Clients.{IsPlace, AreRising}
use Rattle.watch_table.specs.Listening.{HearsOne}
use Rattle.watch_table.specs.Subjects.{subject_of}
use Rattle.watch_table.proofs.Clients.{place-below, clients-set, none-absent}
use Rattle.watch_table.proofs.Telling.{hears-client, told-one, told-absent, KeepWatches-set, hears-kept}
use Rattle.watch_table.proofs.listeners.Listeners.hear.Goals as goal

pub index_mut-listener-requires : goal.index_mut-listener-requires
index_mut-listener-requires g c =
    let items = c.self.inside.listeners.items in
    let below = place-below c.args.client c.in-Some.i items (subst (IsPlace c.args.client c.in-Some.i)
    (sym c.self.view_is) c.in-Some.ensures) in
    let len = c.self.inside.listeners.ok in
    omega arith

pub invariant_of-self : goal.invariant_of-self
invariant_of-self g c =
    let old = c.index_mut-listener.result.now in
    let same = hears-client g.R.Rule.shows (subject_of c.args.subject.now) true old c.hear-ended.new.self c.hear-ended.ensures.hears
    ∙ ap (λ (e : Instance). e.client) c.index_mut-listener.ensures.value in
    subst AreRising (sym (clients-set c.in-Some.i c.self.inside.listeners.items old c.hear-ended.new.self same)) c.self.invariant

pub returns-in-Some : goal.returns-in-Some
returns-in-Some g c =
    let items = c.self.inside.listeners.items in
    let old = c.index_mut-listener.result.now in
    let new = c.hear-ended.new.self in
    let shows = g.R.Rule.shows in
    let s = subject_of c.args.subject.now in
    let place = subst (IsPlace c.args.client c.in-Some.i) (sym c.self.view_is) c.in-Some.ensures in
    let is = c.index_mut-listener.ensures.value in
    let heard = subst (λ e. HearsOne shows s e new) is c.hear-ended.ensures.hears in
    let client = hears-client shows s true old new c.hear-ended.ensures.hears ∙ ap (λ (e : Instance). e.client) is in
    let below = place-below c.args.client c.in-Some.i items place in
    rw (← c.self.view_is) (record {
      told = told-one shows s c.args.client c.in-Some.i items old new place c.self.invariant heard;
      last = λ none. KeepWatches-set c.in-Some.i items old new below client
          (hears-kept shows s old new c.hear-ended.ensures.hears (sym c.hear-ended.ensures.ended ∙ none) ∙ ap (λ (e : Instance). e.watches) is);
      event = c.hear-ended.ensures.event;
    })

pub returns-in-None : goal.returns-in-None
returns-in-None g c = record {
  told = told-absent g.R.Rule.shows (subject_of c.args.subject.now) c.args.client c.args.self.now
      (none-absent c.args.client c.args.self.now c.in-None.ensures);
  last = λ none o k. refl;
  event = c.requires.event;
}
