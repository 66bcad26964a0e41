use Rattle.std.proofs.Common.{◌≡◌, ℕ, ◌<◌, true, not, filter, nat_eq, refl, sym, ap, subst, ◌∙◌}
use Rattle.open_handles.specs.TrackedHandles.{clients_of, is_tracked}
use Rattle.open_handles.proofs.TrackedUses.{absent-tracked}
use Rattle.notice_laws.specs.Notified.{Notified}
use Rattle.notifier.specs.Notifying.{IsAsBefore}
use Rattle.notifier.proofs.Coming.{gone-again, new-client, ok-from}
use Rattle.notifier.proofs.kept.Notifier.attach.Goals as goal

pub detach-requires : goal.detach-requires
detach-requires g c =
    let ks = c.self.inside.handles in
    let opens = subst (λ (k : Notified). (n : ℕ) → is_tracked k.handles n ≡ true → n < c.args.client) (sym c.self.view_is) c.requires.opens in
    λ d. c.attach.ensures.handles c.args.client d ∙ absent-tracked c.args.client d ks (new-client c.args.client ks opens)

pub returns-in-Err-clause-same : goal.returns-in-Err-clause-same
returns-in-Err-clause-same g c =
    let inside = c.self.inside in
    let ks = inside.handles in
    let opens = subst (λ (k : Notified). (n : ℕ) → is_tracked k.handles n ≡ true → n < c.args.client) (sym c.self.view_is) c.requires.opens in
    let came = ok-from c.attach.result c.is_err.result c.is_err.ensures.value c.if-is_err.false c.attach.ensures.clients in
    let new : Notified = record { objects = inside.objects; handles = c.detach.new.self; instances = c.attach-2.new.self; renames = inside.renames; pinned = inside.pinned } in
    subst (λ (k : Notified). IsAsBefore k new) c.self.view_is (record {
      objects = refl;
      clients = c.detach.ensures.clients ∙ ap (filter (λ k. not (nat_eq k c.args.client))) came
          ∙ gone-again c.args.client (clients_of ks) opens;
      slots = λ k d. c.detach.ensures.handles k d ∙ c.attach.ensures.handles k d;
      instances = c.in-Err.ensures.same;
      renames = refl;
    })
