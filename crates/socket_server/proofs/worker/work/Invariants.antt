use Rattle.std.proofs.Common.{◌≡◌, ◌+◌, false, is_some, map, not}
use Rattle.socket_server.proofs.worker.work.Given as goal

-- the worker took so many connections, didn't fail and wasn't stopped
abbrev pub invariant-loop : goal.invariant-loop
invariant-loop g l =
    (l.worked.failed ≡ false) × (l.worked.stopped ≡ false)
    × (l.worked.tally.served + l.worked.tally.refused ≡ l.counter)
    × g.M.Service.keeps (map g.M.Service.tag l.hooks) (is_some l.options.closing) (not l.worked.failed)
    l.worked.tally.served l.worked.kept
