use Rattle.std.proofs.Common.{rules, arith, ◌≤◌, ◌∙◌, length, ap}
use Rattle.std.proofs.lemmas.List.{take_all}
use Rattle.watch_table.specs.Watched.{watchers_of}
use Rattle.watch_table.proofs.Row.{longer-row}
use Rattle.watch_table.proofs.watched_objects.WatchedObjects.reach.Goals as goal

pub returns-in_ok-resize_with-clause-same : goal.returns-in_ok-resize_with-clause-same
returns-in_ok-resize_with-clause-same c n =
    let made = c.in_ok-resize_with.ensures.items in
    let row = c.self.inside.row.items in
    let short : length row ≤ c.in_ok-places.places = omega arith in
    ap (λ t. watchers_of t n) made.2
    ∙ longer-row _ (λ p clients q step. search rules) _ made.0 _ made.1 made.3 n
    ∙ rw (← c.self.view_is) (ap (λ t. watchers_of t n) (take_all c.in_ok-places.places row short))
