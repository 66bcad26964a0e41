use Rattle.std.proofs.Common.{◌≡◌, ◌+◌, [], ◌∷◌, ◌++◌, take, cond, filter, sym, ap, subst, ◌∙◌}
use Rattle.std.proofs.lemmas.List.{take_more}
use Rattle.watch_table.specs.Clients.{watches}
use Rattle.watch_table.specs.Listening.{is_on}
use Rattle.watch_table.specs.Watched.{watchers_of}
use Rattle.watch_table.proofs.Indexing.{refreshed-more}
use Rattle.watch_table.proofs.table.refresh_all.Goals as goal

pub loop-watch-preserved : goal.loop-watch-preserved
loop-watch-preserved g c n =
    let es = c.args.listeners.now in
    let t = c.args.objects.now in
    let ws = c.args.ended.now in
    let i = c.loop-watch.watch-index in
    let w = c.watch-item.result in
    let more : take (i + 1) ws ≡ take i ws ++ w ∷ [] = take_more ws i w c.loop-watch-test.true
    ∙ ap (λ x. take i ws ++ x ∷ []) (sym c.watch-item.is) in
    subst (λ vs. watchers_of c.refresh.new.self n ≡ cond (is_on n vs) (filter (watches es n) (watchers_of t n)) (watchers_of t n))
    (sym more)
    (refreshed-more es t c.loop-watch.objects c.refresh.new.self
    (take i ws) w c.object.result c.object.ensures c.loop-watch.invariant c.refresh.ensures n)
