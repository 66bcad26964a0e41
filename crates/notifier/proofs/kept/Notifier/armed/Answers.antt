use Rattle.std.proofs.Common.{◌+◌, None, arith, refl, ◌∙◌}
use Rattle.open_handles.specs.TrackedHandles.{uses}
use Rattle.notice_laws.specs.Notified.{Notified}
use Rattle.notifier.specs.Notifying.{pinned_times, watchers}
use Rattle.notifier.proofs.Arming.{last-first, more-armed, outcome-of, counted-armed, held-judged, lets-fewer, arms-at}
use Rattle.notifier.proofs.kept.Notifier.armed.Goals as goal

pub arm-outcome-requires-clause-allowed : goal.arm-outcome-requires-clause-allowed
arm-outcome-requires-clause-allowed g c =
    let inside = c.self.inside in
    let said = c.lawful.ensures in
    let old : Notified = record { objects = inside.objects; handles = inside.handles; instances = inside.watches; renames = inside.renames; pinned = inside.pinned } in
    held-judged c.args.self.now old c.self.view_is said.known said.one_there
    c.hold_object.new.objects c.args.client c.args.slot
    c.in_ok-number.number c.args.path.now c.args.object None c.in_ok-number.ensures.holds
    c.requires.judged

pub overflow_sub-more : goal.overflow_sub-more
overflow_sub-more g c =
    let es = c.self.inside.watches in
    let o = c.in_ok-number.number in
    let done = outcome-of c.arm-outcome.result c.arm-outcome.ensures.arms c.arm-outcome.ensures.err in
    let more = more-armed c.args.client c.args.slot o c.args.mask es c.arm-outcome.new.self c.lawful-3.ensures done in
    omega (arith, more.least, c.watchers.ensures, c.watchers-before.ensures)

pub overflow_sub-more-2 : goal.overflow_sub-more-2
overflow_sub-more-2 g c =
    let es = c.self.inside.watches in
    let o = c.in_ok-number.number in
    let done = outcome-of c.arm-outcome.result c.arm-outcome.ensures.arms c.arm-outcome.ensures.err in
    let more = more-armed c.args.client c.args.slot o c.args.mask es c.arm-outcome.new.self c.lawful-3.ensures done in
    omega (arith, more.most, c.watchers.ensures, c.watchers-before.ensures)

pub invariant_of-self-2 : goal.invariant_of-self-2
invariant_of-self-2 g c =
    let inside = c.self.inside in
    let es = inside.watches in
    let fs = c.arm-outcome.new.self in
    let o = c.in_ok-number.number in
    let done = outcome-of c.arm-outcome.result c.arm-outcome.ensures.arms c.arm-outcome.ensures.err in
    let more = more-armed c.args.client c.args.slot o c.args.mask es fs c.lawful-3.ensures done in
    let at = c.in_ok-number.ensures.holds in
    let pins = pinned_times inside.pinned in
    let counts = counted-armed inside.objects c.hold_object.new.objects c.release.new.self at.spot o _ at.holds c.release.ensures.releases
    (λ n. uses inside.handles n + pins n) es fs
    (λ n. c.self.invariant n ∙ last-first (uses inside.handles n) (watchers es n) (pins n))
    more
    (omega (arith, c.watchers.ensures, c.watchers-before.ensures)) in
    λ n. counts n ∙ last-first (uses inside.handles n) (pins n) (watchers fs n)

pub returns-clause-armed : goal.returns-clause-armed
returns-clause-armed g c =
    let inside = c.self.inside in
    let old : Notified = record { objects = inside.objects; handles = inside.handles; instances = inside.watches; renames = inside.renames; pinned = inside.pinned } in
    let new : Notified = record { objects = c.release.new.self; handles = inside.handles; instances = c.arm-outcome.new.self; renames = inside.renames; pinned = inside.pinned } in
    let at = c.in_ok-number.ensures.holds in
    let fewer = lets-fewer inside.objects c.hold_object.new.objects c.release.new.self at.spot c.in_ok-number.number _ at.holds c.release.ensures.releases in
    rw (← c.self.view_is)
    (arms-at old new c.hold_object.new.objects c.args.client c.args.slot c.args.mask c.in_ok-number.number c.args.path.now c.args.object at fewer refl refl
    c.arm-outcome.result c.arm-outcome.ensures.armed c.arm-outcome.ensures.arms)
