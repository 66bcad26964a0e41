use Rattle.std.proofs.Common.{◌≡◌, ◌+◌, ℕ, cond, take}
use Rattle.object_table.specs.Objects.{holders_of}
use Rattle.watch_table.specs.Listening.{is_on}
use Rattle.notice_laws.specs.Opens.{AreFewer}
use Rattle.notifier.proofs.clients.release_each.Given as goal

abbrev pub invariant-loop-watch : goal.invariant-loop-watch
invariant-loop-watch l =
    ((n : ℕ) → holders_of l.objects n + cond (is_on n (take l.watch-index l.ended)) 1 0 ≡ holders_of l.fn.objects n)
    × AreFewer l.fn.objects l.objects
