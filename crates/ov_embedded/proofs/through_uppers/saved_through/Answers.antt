use Rattle.std.proofs.Common.{Err, Ok, refl}
use Rattle.ov_embedded.specs.Saving.{Recalls}
use Rattle.ov_embedded.specs.declared.outcome.Outcome.TheVariants as outcome
use Rattle.ov_embedded.proofs.Handled.{through_some}
use Rattle.ov_embedded.proofs.through_uppers.saved_through.Goals as goal

pub returns-clause-recalls : goal.returns-clause-recalls
returns-clause-recalls c =
    let m = c.in-Some.mounted.value in
    let seen = rw c.deref.ensures at c.piece-count.ensures in
    through_some (Err outcome.NotMounted) (Recalls c.args.at c.args.room.now c.piece-count.new.room)
    c.args.handle.now.mounted c.of.result.mounted m m m m (Ok c.piece-count.result)
    c.in-Some.ensures.mounted refl (refl, seen) refl c.of.ensures
