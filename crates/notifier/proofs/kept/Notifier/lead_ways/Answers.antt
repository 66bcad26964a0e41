use Rattle.std.proofs.Common.{ap, sym, subst, ◌∙◌}
use Rattle.notice_laws.specs.Notified.{Notified}
use Rattle.notice_laws.specs.Moves.{ReWays}
use Rattle.notifier.specs.Moving.{IsPin, led_by}
use Rattle.notifier.proofs.Leading.{never-led, none-led}
use Rattle.notifier.proofs.kept.Notifier.lead_ways.Goals as goal

pub returns-in_default-to-clause-ways : goal.returns-in_default-to-clause-ways
returns-in_default-to-clause-ways g c =
    let old = c.args.self.now in
    let course = c.args.course.now in
    subst (λ to. ReWays old.handles old.handles course.number course.from to) (sym c.in_default-to.is)
    (none-led old.handles old.pinned course.number course.from
    (subst (λ to. IsPin to (led_by old.handles course.number course.from) old.pinned) c.in_default-to.is c.requires))

pub returns-in_default-clause-ways : goal.returns-in_default-clause-ways
returns-in_default-clause-ways g c =
    let old = c.args.self.now in
    let course = c.args.course.now in
    never-led old.handles course.number course.from course.to
    (subst (IsPin course.to (led_by old.handles course.number course.from)) (sym (ap (λ (k : Notified). k.pinned) c.self.view_is) ∙ c.in_default.is) c.requires)
