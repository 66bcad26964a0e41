use Rattle.ov_wire.specs.ManifestEntries.{is_pair}
use Rattle.ov_wire.proofs.Tables.{items_all-view}
use Rattle.ov_wire.proofs.manifest.user_attributes.is_array_of_pairs.Goals as goal

pub returns-in-Some : goal.returns-in-Some
returns-in-Some c =
    let items = rw c.in-Some.is at c.as_array.ensures in
    rw (← items, items_all-view is_pair _) (rw c.deref.ensures.value at c.are_pairs.ensures)
