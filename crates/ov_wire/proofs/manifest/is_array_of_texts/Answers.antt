use Rattle.ov_wire.specs.Manifests.{is_text}
use Rattle.ov_wire.proofs.Tables.{items_all-view}
use Rattle.ov_wire.proofs.manifest.is_array_of_texts.Goals as goal

pub returns-in-Some : goal.returns-in-Some
returns-in-Some c =
    let items = rw c.in-Some.is at c.as_array.ensures in
    rw (← items, items_all-view is_text _) (rw c.deref.ensures.value at c.are_texts.ensures)
