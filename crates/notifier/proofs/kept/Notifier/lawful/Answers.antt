use Rattle.std.proofs.Common.{subst}
use Rattle.notice_laws.specs.Notified.{AreKnown}
use Rattle.notifier.proofs.Counting.{all-known}
use Rattle.notifier.proofs.kept.Notifier.lawful.Goals as goal

pub returns-clause-known : goal.returns-clause-known
returns-clause-known g c =
    let inside = c.self.inside in
    subst AreKnown c.self.view_is
    (all-known (record { objects = inside.objects; handles = inside.handles; instances = inside.watches; renames = inside.renames; pinned = inside.pinned })
    c.self.invariant c.lawful.ensures.counted c.lawful-2.ensures.used)
