use Rattle.std.proofs.Common.{sym, subst, ap, ◌∙◌, arith}
use Rattle.notice_laws.specs.Notified.{Notified}
use Rattle.notifier.specs.Moving.{IsPinned}
use Rattle.notifier.proofs.Coming.{ok-both}
use Rattle.notifier.proofs.Leading.{same-pinned}
use Rattle.notifier.proofs.kept.Notifier.reserve_move.Goals as goal

pub returns-clause-ready : goal.returns-clause-ready
returns-clause-ready g c =
    let mid : Notified = c.pin_ways.new.self in
    let new : Notified = c.prepare_spots.new.self in
    let p = c.args.old.now in
    let q = c.args.new.now in
    let renamed = ap (λ (k : Notified). k.renames) c.prepare_spots.ensures.rest ∙ ap (λ (k : Notified). k.renames) c.pin_ways.ensures.rest
    ∙ sym (ap (λ (k : Notified). k.renames) c.self.view_is) in
    let held = subst (λ (k : Notified). IsPinned k p q c.args.object) (sym c.prepare_spots.ensures.rest)
    (same-pinned mid new.objects p q c.args.object c.prepare_spots.ensures.same (c.in_ok-pin_ways.ensures.pinned c.args.object c.number_of-number.ensures)) in
    ok-both c.prepare_spots.result
    (λ room prepared. record { pinned = held; counted = omega (arith, renamed, c.self.ranges); room = room; prepared = prepared })
    c.prepare_spots.ensures.room c.prepare_spots.ensures.prepared

pub prepare_spots-requires : goal.prepare_spots-requires
prepare_spots-requires g c = c.pin_ways.ensures.known c.args.object c.number_of-number.ensures
