use Rattle.std.proofs.Common.{arith, ◌<◌, length, ap, sym, ◌∙◌}
use Rattle.plain_model.specs.Watching.{Instance}
use Rattle.watch_table.proofs.Clients.{place-from}
use Rattle.watch_table.proofs.listeners.Listeners.find_near.Goals as goal

pub returns-then-client : goal.returns-then-client
returns-then-client g c =
    let items = c.self.inside.listeners.items in
    let below : c.args.near < length items = omega (arith, c.if-near-len.true, c.len.ensures, c.self.inside.listeners.ok) in
    let is = ap (λ (e : Instance). e.client) (sym c.index.ensures) ∙ sym c.client.ensures ∙ c.if-client.true in
    rw (← c.self.view_is) (place-from c.args.client c.args.near items c.index.result.now c.self.invariant below is)
