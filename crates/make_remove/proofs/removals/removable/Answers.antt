use Rattle.std.proofs.Common.{reverse}
use Rattle.merged_lookup.specs.Merged.{layers_of}
use Rattle.make_remove.proofs.Removing.{found-inode, found-stack, found-folder, rmdir-walk, rmdir-walked, rmdir-file, rmdir-fine, rmdir-full, rmdir-unfit}
use Rattle.make_remove.proofs.Sights.{has-name}
use Rattle.make_remove.proofs.removals.removable.Goals as goal

pub found_in-found-requires-clause-directory : goal.found_in-found-requires-clause-directory
found_in-found-requires-clause-directory c = c.in-Ok.ensures.directory c.args.layers.now c.args.path.now c.requires

pub found_in-found-requires-clause-top : goal.found_in-found-requires-clause-top
found_in-found-requires-clause-top c = c.in-Ok.ensures.top c.args.layers.now c.args.path.now c.requires

pub found_in-found-requires-clause-below : goal.found_in-found-requires-clause-below
found_in-found-requires-clause-below c = has-name c.args.path.now (reverse c.in-Some.field-0.1.now) c.in-Some.field-0.0.now c.in-Some.ensures

pub returns-in-Err-clause-refused : goal.returns-in-Err-clause-refused
returns-in-Err-clause-refused c = λ full tells.
    rmdir-walked (layers_of c.args.layers.now) c.args.path.now (reverse c.in-Some.field-0.1.now) c.in-Some.field-0.0.now c.in-Err.errno full c.in-Some.ensures
    (c.in-Err.ensures.refused c.args.layers.now c.args.path.now c.requires)

pub returns-in-Err-clause-refuses : goal.returns-in-Err-clause-refuses
returns-in-Err-clause-refuses c =
    rmdir-walk c.args.layers.now c.args.path.now (reverse c.in-Some.field-0.1.now) c.in-Some.field-0.0.now c.in-Err.errno c.in-Some.ensures
    (c.in-Err.ensures.refused c.args.layers.now c.args.path.now c.requires)

pub returns-in_default-found-clause-refuses : goal.returns-in_default-found-clause-refuses
returns-in_default-found-clause-refuses c =
    rmdir-file c.args.layers.now c.args.path.now (reverse c.in-Some.field-0.1.now) c.in-Some.field-0.0.now c.in-Some.ensures
    (c.in-Ok.ensures.fine c.args.layers.now c.args.path.now c.requires)
    (found-inode c.args.layers.now c.args.path.now c.found_in-found.result c.in_default-found.field-0 c.in_default-found.is c.found_in-found.ensures)

pub returns-then-shows_names-clause-refuses : goal.returns-then-shows_names-clause-refuses
returns-then-shows_names-clause-refuses c =
    let stack = found-stack c.args.layers.now c.args.path.now c.found_in-found.result c.in-Directory.stack c.in-Directory.is c.found_in-found.ensures in
    let folder = found-folder c.args.layers.now c.args.path.now c.found_in-found.result c.in-Directory.stack c.in-Directory.is c.found_in-found.ensures in
    let name = c.if-shows_names.ensures c.args.path.now stack in
    rmdir-full c.args.layers.now c.args.path.now (reverse c.in-Some.field-0.1.now) c.in-Some.field-0.0.now name.0 c.in-Some.ensures folder name.1

pub returns-in_default-found-clause-refused : goal.returns-in_default-found-clause-refused
returns-in_default-found-clause-refused c = λ full tells.
    rmdir-unfit (layers_of c.args.layers.now) c.args.path.now (reverse c.in-Some.field-0.1.now) c.in-Some.field-0.0.now full c.in-Some.ensures
    (c.in-Ok.ensures.fine c.args.layers.now c.args.path.now c.requires)
    (found-inode c.args.layers.now c.args.path.now c.found_in-found.result c.in_default-found.field-0 c.in_default-found.is c.found_in-found.ensures)

pub returns-clause-allowed : goal.returns-clause-allowed
returns-clause-allowed c =
    rmdir-fine (layers_of c.args.layers.now) c.args.path.now (reverse c.in-Some.field-0.1.now) c.in-Some.field-0.0.now c.in-Some.ensures
    (c.in-Ok.ensures.fine c.args.layers.now c.args.path.now c.requires)
    (found-folder c.args.layers.now c.args.path.now c.found_in-found.result c.in-Directory.stack c.in-Directory.is c.found_in-found.ensures)

pub returns-clause-directory : goal.returns-clause-directory
returns-clause-directory c = c.in-Ok.ensures.directory c.args.layers.now c.args.path.now c.requires
