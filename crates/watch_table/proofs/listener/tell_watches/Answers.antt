use Rattle.std.proofs.Common.{◌≡◌, ◌+◌, [], ◌∷◌, ◌++◌, map, flat_map, take, sym, ap, subst, ◌∙◌}
use Rattle.std.proofs.lemmas.List.{append-nil}
use Rattle.std.proofs.lemmas.Grind.{flat_map-append}
use Rattle.std.proofs.lemmas.List.{take_more}
use Rattle.plain_model.specs.Watching.{Puts}
use Rattle.watch_table.specs.Listening.{asked_of}
use Rattle.watch_table.specs.Subjects.{subject_of}
use Rattle.watch_table.proofs.Hearing.{Puts-append}
use Rattle.watch_table.proofs.listener.tell_watches.Goals as goal

pub loop-watch-preserved : goal.loop-watch-preserved
loop-watch-preserved g c =
    let f = asked_of c.args.client (map (λ h. h.tag) c.args.hooks.now) (subject_of c.args.subject.now) in
    let ws = c.args.watches.now in
    let i = c.loop-watch.watch-index in
    let w = c.watch-item.result in
    let more : take (i + 1) ws ≡ take i ws ++ w ∷ [] = take_more ws i w c.loop-watch-test.true
    ∙ ap (λ x. take i ws ++ x ∷ []) (sym c.watch-item.is) in
    let split : flat_map f (take (i + 1) ws) ≡ flat_map f (take i ws) ++ f w = ap (flat_map f) more ∙ flat_map-append f (take i ws) (w ∷ [])
    ∙ ap (λ x. flat_map f (take i ws) ++ x) (append-nil (f w)) in (
      subst (λ xs. Puts g.R.Rule.shows xs c.args.queue.now c.tell_watch.new.queue) (sym split)
          (Puts-append g.R.Rule.shows (flat_map f (take i ws))
          (f w) c.args.queue.now c.loop-watch.queue c.tell_watch.new.queue c.loop-watch.invariant.0 c.tell_watch.ensures.puts),
      c.tell_watch.ensures.event,
    )
