use Rattle.std.proofs.Common.{◌≡◌, ◌-◌, ℕ, None, refl, ap, subst, ◌∙◌, arith}
use Rattle.std.proofs.lemmas.Int.{to_z-of_z}
use Rattle.plain_model.specs.Watching.{IGNORED, Only, Subject}
use Rattle.object_table.specs.Objects.{SetsSpot, holders_of, spot_left, spot_of}
use Rattle.watch_table.proofs.Indexing.{each-own}
use Rattle.notifier.specs.Notifying.{watchers}
use Rattle.notifier.proofs.Hearing.{fewer-watch, one-spared}
use Rattle.notifier.proofs.Counting.{counted-told}
use Rattle.notifier.proofs.kept.Notifier.disarmed.Goals as goal

pub overflow_sub-ended : goal.overflow_sub-ended
overflow_sub-ended g c =
    let s : Subject = record { aim = Only c.args.client c.args.watch; bits = IGNORED; cookie = 0; name = None } in
    let fits = c.ranges.watch in
    let heard = simp (to_z-of_z, fits) at c.fire.ensures in
    let less = fewer-watch g.R.Rule.shows s c.in-Some.object c.self.inside.watches c.fire.new.self heard in
    omega (arith, less, c.watchers.ensures, c.watchers-before.ensures)

pub invariant_of-self : goal.invariant_of-self
invariant_of-self g c =
    let s : Subject = record { aim = Only c.args.client c.args.watch; bits = IGNORED; cookie = 0; name = None } in
    let shows = g.R.Rule.shows in
    let inside = c.self.inside in
    let es = inside.watches in
    let o = c.in-Some.object in
    let fits = c.ranges.watch in
    let one = simp (to_z-of_z, fits) at c.in-Some.ensures in
    let heard = simp (to_z-of_z, fits) at c.fire.ensures in
    let ended : c.watchers-before.result - c.watchers.result ≡ watchers es o - watchers c.fire.new.self o =
    ap (λ (m : ℕ). m - c.watchers.result) c.watchers-before.ensures ∙ ap (λ (m : ℕ). watchers es o - m) c.watchers.ensures in
    let held = holders_of inside.objects o in
    let sets = subst (λ (m : ℕ). SetsSpot inside.objects c.release.new.self o (spot_left (held - m) (spot_of inside.objects o)) (held - m))
    ended c.release.ensures.releases in
    counted-told shows s o
    (record { objects = inside.objects; handles = inside.handles; instances = es; renames = inside.renames; pinned = inside.pinned })
    c.fire.new.self c.release.new.self heard
    (λ n ne. one-spared shows s o c.args.client c.args.watch refl n ne es es one (each-own es c.lawful.ensures)) c.self.invariant sets.held sets.other_holders
