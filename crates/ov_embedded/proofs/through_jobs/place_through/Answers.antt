use Rattle.std.proofs.Common.{Err, refl}
use Rattle.ov_embedded.specs.Placing.{Places}
use Rattle.ov_embedded.specs.declared.outcome.Outcome.TheVariants as outcome
use Rattle.ov_embedded.proofs.Handled.{through_some}
use Rattle.ov_embedded.proofs.through_jobs.place_through.Goals as goal

pub returns : goal.returns
returns c =
    let m = c.in-Some.mounted.value in
    let seen = rw c.deref.ensures at c.place-found.ensures in
    through_some (Err outcome.NotMounted) (Places c.args.text.now) c.args.handle.now.mounted
    c.of.result.mounted m m m m c.place-found.result c.in-Some.ensures.mounted refl
    (refl, seen) refl c.of.ensures
