use Rattle.std.proofs.Common.{◌≡◌, ℕ, cond, filter, subst}
use Rattle.watch_table.specs.Clients.{watches}
use Rattle.watch_table.specs.Listening.{is_on}
use Rattle.watch_table.specs.Watched.{watchers_of}
use Rattle.watch_table.proofs.Indexing.{index-gone}
use Rattle.watch_table.proofs.table.WatchTable.detach.Goals as goal

pub invariant_of-self : goal.invariant_of-self
invariant_of-self g c =
    let es = c.self.inside.listeners in
    let fs = c.detach-listener.new.self in
    let t = c.self.inside.objects in
    let u = c.refresh_all.new.objects in
    let set = subst (λ ws. (n : ℕ) → watchers_of u n ≡ cond (is_on n ws) (filter (watches fs n) (watchers_of t n))
    (watchers_of t n)) c.watches.ensures.watches c.refresh_all.ensures in
    let gone = c.detach-listener.ensures.gone in
    let instance = c.detach-listener.ensures.instance in
    index-gone es fs t u c.args.client c.detach-listener.result gone instance c.self.invariant set
