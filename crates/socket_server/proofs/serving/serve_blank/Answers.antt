use Rattle.socket_server.proofs.Ends.{past_end}
use Rattle.socket_server.proofs.serving.serve_blank.Goals as goal

pub returns-clause-past : goal.returns-clause-past
returns-clause-past g c = rw c.finish-past.ensures.left (past_end _ _)

pub returns-clause-served : goal.returns-clause-served
returns-clause-served g c = (
  c.in_ok-receipts.receipts.items,
  c.in_ok-receipts.ensures.served,
  c.finish-past.ensures.stand,
  c.finish-past.ensures.left,
)

pub returns-clause-stopped : goal.returns-clause-stopped
returns-clause-stopped g c = c.in_ok-receipts.ensures.stopped
