use Rattle.std.proofs.Common.{◌≡◌, ℕ, ◌-◌, refl, subst, arith}
use Rattle.std.specs.Prelude.{option_copied}
use Rattle.ov_base.specs.declared.node_id.NodeId.TheVariants.{New}
use Rattle.plain_model.specs.Watching.{On, Subject}
use Rattle.object_table.specs.Objects.{SetsSpot, holders_of, spot_left, spot_of}
use Rattle.notifier.specs.Notifying.{watchers}
use Rattle.notifier.proofs.Hearing.{others-spared}
use Rattle.notifier.proofs.Counting.{counted-told}
use Rattle.notifier.proofs.kept.Notifier.tell.Goals as goal

pub invariant_of-self : goal.invariant_of-self
invariant_of-self g c =
    let s : Subject = record { aim = On (New c.args.object); bits = c.args.bits; cookie = c.args.cookie; name = option_copied c.args.name } in
    let inside = c.self.inside in
    let o = c.args.object in
    let after = c.tell_watchers-ended.new.self in
    let ended : c.tell_watchers-ended.result ≡ watchers inside.watches o - watchers after o = omega (arith, c.tell_watchers-ended.ensures.ended) in
    let held = holders_of inside.objects o in
    let sets = subst (λ (m : ℕ). SetsSpot inside.objects c.release.new.self o (spot_left (held - m) (spot_of inside.objects o)) (held - m))
    ended c.release.ensures.releases in
    counted-told g.R.Rule.shows s o
    (record { objects = inside.objects; handles = inside.handles; instances = inside.watches; renames = inside.renames; pinned = inside.pinned })
    after c.release.new.self c.tell_watchers-ended.ensures.hear (λ n ne. others-spared g.R.Rule.shows s o refl n ne inside.watches) c.self.invariant
    sets.held sets.other_holders
