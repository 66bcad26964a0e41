use Rattle.std.proofs.Common.{rules, sym, ◌∙◌}
use Rattle.std.specs.List.{list_any}
use Rattle.socket_server.proofs.Ends.{not-stopped}
use Rattle.socket_server.proofs.workers.serve_all.Goals as goal

pub returns-clause-served : goal.returns-clause-served
returns-clause-served g c = record {
  many = c.in_ok-workers.ensures.many;
  work = c.in_ok-workers.ensures.work;
  end = search rules;
}

pub returns-clause-stopped : goal.returns-clause-stopped
unfolding returns-clause-served
returns-clause-stopped g c none e =
    not-stopped c.in_ok-workers.workers.items (list_any (λ worked. worked.failed) c.in_ok-workers.workers.items) (c.in_ok-workers.ensures.stopped none)
    (sym (returns-clause-served g c).end ∙ e)
