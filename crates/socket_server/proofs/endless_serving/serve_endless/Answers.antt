use Rattle.std.proofs.lemmas.List.Elements.{All-weaker}
use mathlib.Core.List.{IsPrefix}
use Rattle.endless_mount.proofs.Fronts.{prefix_trans}
use Rattle.socket_server.proofs.endless_serving.serve_endless.Goals as goal

pub returns-clause-served : goal.returns-clause-served
returns-clause-served g c =
    let workers = c.in_ok-workers.workers.items in
    let seen = c.longest-seen.result in
    let history = c.finish-core.result.1 in record {
      workers = workers;
      work = c.in_ok-workers.ensures.served;
      all = All-weaker (λ worked. IsPrefix worked.kept seen) (λ worked. IsPrefix worked.kept history)
          (λ worked begins. prefix_trans worked.kept seen history begins c.finish-core.ensures.seen)
          workers c.longest-seen.ensures;
    }
