use Rattle.std.proofs.Common.{reverse, take, ap}
use Rattle.layer_tree.specs.Tree.{layer_of}
use Rattle.merged_lookup.specs.Merged.{layers_of}
use Rattle.copy_up.proofs.Keeping.{or-first, way-directory, top-in-upper}
use Rattle.copy_up.proofs.Needing.{way-split, held-parents, split-parent}
use Rattle.copy_up.proofs.needs.place_dir.Goals as goal

pub directory_at-parent-requires : goal.directory_at-parent-requires
directory_at-parent-requires c = or-first _ _ (way-split c.args.path.now c.args.count c.requires.needed.0 (take c.args.count c.names.result.now) c.in-Some.parents.now c.in-Some.name.now (ap (take c.args.count) c.names.ensures) c.in-Some.ensures.cases.0 (layers_of c.args.layers.now) c.requires.shown)

pub place_parent-requires-clause-shown : goal.place_parent-requires-clause-shown
place_parent-requires-clause-shown c = (reverse c.in-Some.parents.now, c.directory_at-parent.ensures, way-directory (layers_of c.args.layers.now) (reverse c.in-Some.parents.now) c.in-Some.name.now (way-split c.args.path.now c.args.count c.requires.needed.0 (take c.args.count c.names.result.now) c.in-Some.parents.now c.in-Some.name.now (ap (take c.args.count) c.names.ensures) c.in-Some.ensures.cases.0 (layers_of c.args.layers.now) c.requires.shown))

pub place_parent-requires-clause-upper : goal.place_parent-requires-clause-upper
place_parent-requires-clause-upper c = top-in-upper c.args.layers.now (reverse c.in-Some.parents.now) c.directory_at-parent.result c.directory_at-parent.ensures (held-parents c.args.path.now c.args.count c.requires.needed.0 (take c.args.count c.names.result.now) c.in-Some.parents.now c.in-Some.name.now (ap (take c.args.count) c.names.ensures) c.in-Some.ensures.cases.0 (layer_of c.args.layers.now.upper) c.requires.needed.2)

pub returns-clause-gains : goal.returns-clause-gains
returns-clause-gains c = c.place_parent.ensures.gains (reverse c.in-Some.parents.now) c.args.path.now c.directory_at-parent.ensures (split-parent c.args.path.now c.args.count c.requires.needed.0 (take c.args.count c.names.result.now) c.in-Some.parents.now c.in-Some.name.now (ap (take c.args.count) c.names.ensures) c.in-Some.ensures.cases.0)

pub returns-in_err-place_parent-clause-gains : goal.returns-in_err-place_parent-clause-gains
returns-in_err-place_parent-clause-gains c = c.place_parent.ensures.gains (reverse c.in-Some.parents.now) c.args.path.now c.directory_at-parent.ensures (split-parent c.args.path.now c.args.count c.requires.needed.0 (take c.args.count c.names.result.now) c.in-Some.parents.now c.in-Some.name.now (ap (take c.args.count) c.names.ensures) c.in-Some.ensures.cases.0)
