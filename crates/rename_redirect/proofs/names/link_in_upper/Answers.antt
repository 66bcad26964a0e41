use Rattle.copy_up.proofs.Keeping.{on-err}
use Rattle.copy_up.proofs.Nodes.{place-directory, place-free}
use Rattle.layer_tree.proofs.Nameless.{keeps_same}
use Rattle.merged_lookup.proofs.Descending.{key-of}
use Rattle.plain_model.specs.Layers.{Named}
use Rattle.layer_tree.specs.Tree.{layer_of}
use Rattle.std.proofs.Common.{◌∷◌}
use Rattle.rename_redirect.proofs.Further.{adds-name, keeps-linked, sets-directories}
use Rattle.rename_redirect.proofs.names.link_in_upper.Goals as goal

pub link-requires-clause-is_dir : goal.link-requires-clause-is_dir
link-requires-clause-is_dir c =
    rw c.upper_mut.ensures.value (place-directory c.args.layers.now.upper c.lawful.ensures.tree c.args.dir c.args.name.now c.requires.place.0 c.requires.place.1)

pub link-requires-clause-no_object : goal.link-requires-clause-no_object
link-requires-clause-no_object c =
    rw c.upper_mut.ensures.value
    (rw c.in_ok-name.ensures.cases (place-free c.args.layers.now.upper c.lawful.ensures.tree c.args.dir c.args.name.now c.requires.place.0 c.requires.place.1))

pub returns-in_err-link-clause-same : goal.returns-in_err-link-clause-same
returns-in_err-link-clause-same c =
    let w = rw c.upper_mut.ensures.value at c.in_err-link.ensures in
    on-err _ c.from_residual-in_err-link.result (keeps_same c.args.layers.now.upper c.link.new.self w.err)

pub returns-in_err-link-clause-keeps : goal.returns-in_err-link-clause-keeps
returns-in_err-link-clause-keeps c =
    let at = c.requires.place.1 in
    let w = rw c.upper_mut.ensures.value at c.link.ensures in
    w.keeps c.requires.place.0 (key-of c.args.layers.now.upper c.requires.place.0 c.args.dir at.attributes at.opaque at.redirect at.directory)

pub returns-clause-keeps : goal.returns-clause-keeps
returns-clause-keeps c =
    let at = c.requires.place.1 in
    let w = rw c.upper_mut.ensures.value at c.link.ensures in
    w.keeps c.requires.place.0 (key-of c.args.layers.now.upper c.requires.place.0 c.args.dir at.attributes at.opaque at.redirect at.directory)

pub returns-clause-added : goal.returns-clause-added
returns-clause-added c = λ q at p named.
    let w = rw (c.upper_mut.ensures.value, c.in_ok-name.ensures.cases) at c.in_ok-link.ensures in
    adds-name c.args.layers.now.upper c.link.new.self c.args.dir c.args.name.now c.args.key w.links q at p named c.lawful.ensures.together
    (w.sets q (key-of c.args.layers.now.upper q c.args.dir at.attributes at.opaque at.redirect at.directory))

pub returns-clause-directories : goal.returns-clause-directories
returns-clause-directories c =
    let q = c.requires.place.0 in
    let at = c.requires.place.1 in
    let w = rw (c.upper_mut.ensures.value, c.in_ok-name.ensures.cases) at c.in_ok-link.ensures in
    sets-directories (layer_of c.args.layers.now.upper) (layer_of c.link.new.self) (c.args.name.now ∷ q) (Named c.args.key) at.free
    (w.sets q (key-of c.args.layers.now.upper q c.args.dir at.attributes at.opaque at.redirect at.directory))

pub returns-clause-objects : goal.returns-clause-objects
returns-clause-objects c =
    let w = rw (c.upper_mut.ensures.value, c.in_ok-name.ensures.cases) at c.in_ok-link.ensures in
    keeps-linked c.args.layers.now.upper c.link.new.self c.args.dir c.args.name.now c.args.key w.links c.requires.place.0 c.requires.place.1 c.requires.source.0 c.requires.source.1
