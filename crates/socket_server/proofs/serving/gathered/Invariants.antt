use Rattle.std.proofs.Common.{◌≡◌}
use Rattle.std.specs.List.{flat_map}
use Rattle.socket_server.specs.Working.{receipts_in}
use Rattle.socket_server.proofs.serving.gathered.Given as goal

-- the receipts of the first workers
abbrev pub invariant-loop-worked : goal.invariant-loop-worked
invariant-loop-worked g l = l.all.items ≡ flat_map receipts_in l.yielded
