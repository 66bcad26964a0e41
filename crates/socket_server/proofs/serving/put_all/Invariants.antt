use Rattle.std.proofs.Common.{◌≡◌, ◌++◌}
use Rattle.std.specs.List.{flat_map}
use Rattle.socket_server.proofs.serving.put_all.Given as goal

-- the receipts of the first clients are behind the others
abbrev pub invariant-loop-receipts : goal.invariant-loop-receipts
invariant-loop-receipts g l =
    l.all.items ≡ l.initial.all.items ++ flat_map (λ receipts. receipts.items) l.yielded
