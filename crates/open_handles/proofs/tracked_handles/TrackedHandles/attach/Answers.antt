use Rattle.std.proofs.Common.{◌≡◌, ◌<◌, ◌++◌, ◌∷◌, [], ℕ, true, ap, subst, sym, ◌∙◌}
use Rattle.open_handles.specs.TrackedHandles.{TrackedTable, AreTracked, is_tracked, tracked_by, uses}
use Rattle.open_handles.proofs.TrackedUses.{comes-lawful, comes-tracked, comes-uses}
use Rattle.open_handles.proofs.tracked_handles.TrackedHandles.attach.Goals as goal

pub invariant_of-self-2 : goal.invariant_of-self-2
invariant_of-self-2 c =
    let items = c.self.inside.clients.items in
    let above = subst (λ ks. (b : ℕ) → is_tracked ks b ≡ true → b < c.args.client) (sym c.self.view_is) c.requires in
    let came = c.in_ok-push.ensures.items ∙ ap (λ (k : TrackedTable). items ++ k ∷ []) c.in_ok-tracked.ensures in
    subst AreTracked (sym came) (comes-lawful c.args.client items above c.self.invariant)

pub returns-clause-handles : goal.returns-clause-handles
returns-clause-handles c b d =
    let items = c.self.inside.clients.items in
    let above = subst (λ ks. (b : ℕ) → is_tracked ks b ≡ true → b < c.args.client) (sym c.self.view_is) c.requires in
    let came = c.in_ok-push.ensures.items ∙ ap (λ (k : TrackedTable). items ++ k ∷ []) c.in_ok-tracked.ensures in
    rw (← c.self.view_is) (ap (λ ks. tracked_by ks b d) came ∙ comes-tracked c.args.client items above b d)

pub returns-clause-uses : goal.returns-clause-uses
returns-clause-uses c n =
    let items = c.self.inside.clients.items in
    let above = subst (λ ks. (b : ℕ) → is_tracked ks b ≡ true → b < c.args.client) (sym c.self.view_is) c.requires in
    let came = c.in_ok-push.ensures.items ∙ ap (λ (k : TrackedTable). items ++ k ∷ []) c.in_ok-tracked.ensures in
    rw (← c.self.view_is) (ap (λ ks. uses ks n) came ∙ comes-uses c.args.client items above n)
