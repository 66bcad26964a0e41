use Rattle.std.proofs.Common.{rules, arith, ◌<◌}
use Rattle.socket_server.proofs.workers.work_and_tell.Goals as goal

pub returns : goal.returns
returns g c =
    let two : 1 < 2 = omega arith in
    let second = (c.in_ok-left.ensures.each 1 c.swap_remove.result two).1.met in
    rw c.swap_remove.ensures.value (search rules)
