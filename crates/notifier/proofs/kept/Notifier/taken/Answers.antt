use Rattle.std.proofs.Common.{refl, subst}
use Rattle.watch_table.proofs.Outcomes.{OnOk-map}
use Rattle.notice_laws.specs.Clients.{Takes}
use Rattle.notice_laws.specs.Notified.{Notified}
use Rattle.notifier.proofs.kept.Notifier.taken.Goals as goal

pub returns-clause-takes : goal.returns-clause-takes
returns-clause-takes g c =
    let inside = c.self.inside in
    let new : Notified = record { objects = inside.objects; handles = inside.handles; instances = c.take.new.self; renames = inside.renames; pinned = inside.pinned } in
    OnOk-map c.take.result (λ left. subst (λ (k : Notified). Takes k new c.args.client c.args.count) c.self.view_is
    (record { instances = left; objects = refl; handles = refl; renames = refl })) c.take.ensures.left
