use Rattle.socket_server.proofs.serving.serve_mount.Goals as goal

pub returns-clause-served : goal.returns-clause-served
returns-clause-served g c = record {
  workers = c.in_ok-workers.workers.items;
  work = c.in_ok-workers.ensures.served;
  all = c.in_ok-receipts.ensures;
}
