use Rattle.std.proofs.Common.{◌≡◌, ℕ, ◌+◌, true, cond, ap, subst, arith}
use Rattle.plain_model.specs.Machine.{instance_of, watches_of}
use Rattle.object_table.specs.Objects.{holders_of}
use Rattle.watch_table.specs.Listening.{is_on}
use Rattle.notifier.specs.Notifying.{watchers}
use Rattle.notifier.proofs.Muting.{watchers-apart}
use Rattle.notifier.proofs.kept.Notifier.muted.Goals as goal

pub release_each-requires-clause-held : goal.release_each-requires-clause-held
release_each-requires-clause-held g c n on =
    let inside = c.self.inside in
    let apart = watchers-apart n c.args.client inside.watches c.lawful.ensures in
    let own : cond {A = ℕ} (is_on n (watches_of (instance_of inside.watches c.args.client))) 1 0 ≡ 1 =
    ap (λ b. cond {A = ℕ} b 1 0) (subst (λ ws. is_on n ws ≡ true) c.watches.ensures.watches on) in
    let counted = c.self.invariant n in
    omega arith

pub invariant_of-self : goal.invariant_of-self
invariant_of-self g c n =
    let inside = c.self.inside in
    let apart = watchers-apart n c.args.client inside.watches c.lawful.ensures in
    let counted = c.self.invariant n in
    let held = subst (λ ws. holders_of c.release_each.new.objects n + cond (is_on n ws) 1 0 ≡ holders_of inside.objects n)
    c.watches.ensures.watches (c.release_each.ensures.held n) in
    let left = ap (λ es. watchers es n) c.detach.ensures.gone in
    omega arith
