use Rattle.std.proofs.Common.{take, get_or, sym, subst, refl, ◌∙◌}
use Rattle.std.proofs.lemmas.Bool.{or_parts}
use Rattle.std.proofs.lemmas.List.{take_more}
use Rattle.watch_table.specs.Clients.{AreTold}
use Rattle.watch_table.specs.Subjects.{subject_of}
use Rattle.watch_table.proofs.Telling.{told-none, told-more, before-apart}
use Rattle.watch_table.proofs.listeners.Listeners.tell.Goals as goal

pub loop-client-init : goal.loop-client-init
loop-client-init g c = (told-none g.R.Rule.shows (subject_of c.args.subject.now) c.args.self.now, (λ none o k. refl), c.event-event.ensures)

pub loop-client-preserved : goal.loop-client-preserved
loop-client-preserved g c =
    let s = subject_of c.args.subject.now in
    let ks = c.args.clients.now in
    let i = c.loop-client.client-index in
    let apart = before-apart ks i 0 c.requires.once c.loop-client-test.true in
    let told = subst (λ told. AreTold g.R.Rule.shows s told c.args.self.now c.hear-next.new.self) (sym (take_more ks i 0 c.loop-client-test.true))
    (told-more g.R.Rule.shows s (take i ks)
    (get_or ks i 0) c.args.self.now c.loop-client.self c.hear-next.new.self c.loop-client.invariant.0 c.hear-next.ensures.told apart) in (
      told,
      (λ none. let each = or_parts c.loop-client.is_ended c.hear-next.result.1 none in
          λ o k. c.hear-next.ensures.last each.1 o k ∙ c.loop-client.invariant.1 each.0 o k),
      c.hear-next.ensures.event,
    )
