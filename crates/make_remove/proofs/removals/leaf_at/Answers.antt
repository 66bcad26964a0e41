use Rattle.std.proofs.Common.{true, false, reverse, ap}
use Rattle.plain_model.specs.Layers.{is_directory}
use Rattle.merged_lookup.specs.Merged.{layers_of}
use Rattle.make_remove.proofs.Removing.{unlink-found, unlink-walk}
use Rattle.make_remove.proofs.Sights.{top-directory, top-inode}
use Rattle.make_remove.proofs.removals.leaf_at.Goals as goal

pub returns-in-Err-clause-refused : goal.returns-in-Err-clause-refused
returns-in-Err-clause-refused c = λ l h.
    unlink-walk (layers_of l) c.args.path.now (reverse c.in-Some.field-0.1.now) c.in-Some.field-0.0.now c.in-Err.errno c.in-Some.ensures
    (c.in-Err.ensures.refused l c.args.path.now h)

pub returns-in_default-shown-clause-refused : goal.returns-in_default-shown-clause-refused
returns-in_default-shown-clause-refused c = λ l h.
    unlink-found (layers_of l) c.args.path.now (reverse c.in-Some.field-0.1.now) c.in-Some.field-0.0.now true c.in-Some.ensures
    (c.in-Ok.ensures.fine l c.args.path.now h)
    (top-directory l c.args.path.now c.in-Ok.found.1 c.in_default-shown.field-0 c.in_default-shown.is (c.in-Ok.ensures.top l c.args.path.now h))

pub returns-clause-shown : goal.returns-clause-shown
returns-clause-shown c = λ l h.
    top-inode l c.args.path.now c.in-Ok.found.1 c.in-Inode.place c.in-Inode.is (c.in-Ok.ensures.top l c.args.path.now h)

pub returns-clause-allowed : goal.returns-clause-allowed
returns-clause-allowed c = λ l h.
    let shown = top-inode l c.args.path.now c.in-Ok.found.1 c.in-Inode.place c.in-Inode.is (c.in-Ok.ensures.top l c.args.path.now h) in
    unlink-found (layers_of l) c.args.path.now (reverse c.in-Some.field-0.1.now) c.in-Some.field-0.0.now false c.in-Some.ensures
    (c.in-Ok.ensures.fine l c.args.path.now h) (ap is_directory shown.shown)
