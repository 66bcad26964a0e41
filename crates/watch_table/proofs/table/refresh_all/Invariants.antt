use Rattle.std.proofs.Common.{◌≡◌, ℕ, cond, filter, take}
use Rattle.watch_table.specs.Clients.{watches}
use Rattle.watch_table.specs.Listening.{is_on}
use Rattle.watch_table.specs.Watched.{watchers_of}
use Rattle.watch_table.proofs.table.refresh_all.Given as goal

abbrev pub invariant-loop-watch : goal.invariant-loop-watch
invariant-loop-watch g l =
    (n : ℕ) → watchers_of l.objects n ≡ cond (is_on n (take l.watch-index l.ended))
    (filter (watches l.listeners n) (watchers_of l.fn.objects n)) (watchers_of l.fn.objects n)
