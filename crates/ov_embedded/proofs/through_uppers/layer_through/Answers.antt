use Rattle.std.proofs.Common.{Err, refl}
use Rattle.ov_embedded.specs.Saving.{ListsLayer}
use Rattle.ov_embedded.specs.declared.outcome.Outcome.TheVariants as outcome
use Rattle.ov_embedded.proofs.Handled.{through_some}
use Rattle.ov_embedded.proofs.through_uppers.layer_through.Goals as goal

pub returns : goal.returns
returns c =
    let made = c.list_layer-listed in
    through_some (Err outcome.NotMounted) (ListsLayer c.args.index) c.args.handle.now.mounted
    c.of.result.mounted c.in-Some.mounted.value c.deref_mut.result.now
    made.new.self made.new.self made.result c.in-Some.ensures.mounted
    c.deref_mut.ensures.value made.ensures refl c.of.ensures
