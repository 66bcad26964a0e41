use Rattle.merged_lookup.proofs.Descending.{key-of}
use Rattle.layer_tree.proofs.Nameless.{keeps_same, keeps_leaf}
use Rattle.copy_up.proofs.Keeping.{on-err}
use Rattle.copy_up.proofs.Nodes.{place-free}
use Rattle.copy_up.proofs.Copying.{leaf-leads, leaf-placed}
use Rattle.copy_up.proofs.leaves.insert_leaf.Goals as goal

pub insert-requires-clause-no_object : goal.insert-requires-clause-no_object
insert-requires-clause-no_object c =
    rw c.upper_mut.ensures.value (rw c.in_ok-name.ensures.cases (place-free c.args.layers.now.upper c.lawful.ensures.tree c.args.dir c.args.name.now c.requires.place.0 c.requires.place.1))

pub returns-in_err-key-clause-keeps : goal.returns-in_err-key-clause-keeps
returns-in_err-key-clause-keeps c =
    let w = rw c.upper_mut.ensures.value at c.insert.ensures in
    w.keeps c.requires.place.0 (key-of c.args.layers.now.upper c.requires.place.0 c.args.dir c.requires.place.1.attributes c.requires.place.1.opaque c.requires.place.1.redirect c.requires.place.1.directory)

pub returns-clause-keeps : goal.returns-clause-keeps
returns-clause-keeps c =
    let w = rw c.upper_mut.ensures.value at c.insert.ensures in
    w.keeps c.requires.place.0 (key-of c.args.layers.now.upper c.requires.place.0 c.args.dir c.requires.place.1.attributes c.requires.place.1.opaque c.requires.place.1.redirect c.requires.place.1.directory)

pub insert-requires-clause-redirect : goal.insert-requires-clause-redirect
insert-requires-clause-redirect c = leaf-leads c.args.object c.requires.leaf

pub returns-clause-placed : goal.returns-clause-placed
returns-clause-placed c = λ p h i is.
    let w = rw c.upper_mut.ensures.value at c.in_ok-key.ensures in
    leaf-placed c.args.layers.now.upper c.insert.new.self c.args.dir c.args.name.now p c.in_ok-key.key c.args.object i is h
    (rw c.in_ok-name.ensures.cases at (w.sets p (key-of c.args.layers.now.upper p c.args.dir h.attributes h.opaque h.redirect h.directory))) (rw c.in_ok-name.ensures.cases at w.inserts)

pub returns-clause-objects : goal.returns-clause-objects
returns-clause-objects c =
    let w = rw c.upper_mut.ensures.value at c.in_ok-key.ensures in
    keeps_leaf c.args.layers.now.upper c.insert.new.self c.args.dir c.in_ok-name.name _ c.in_ok-key.key w.inserts c.requires.place.0
    (key-of c.args.layers.now.upper c.requires.place.0 c.args.dir c.requires.place.1.attributes c.requires.place.1.opaque c.requires.place.1.redirect c.requires.place.1.directory)

pub returns-clause-vacant : goal.returns-clause-vacant
returns-clause-vacant c = let w = rw c.upper_mut.ensures.value at c.in_ok-key.ensures in w.inserts.fresh

pub returns-in_err-key-clause-same : goal.returns-in_err-key-clause-same
returns-in_err-key-clause-same c =
    let w = rw c.upper_mut.ensures.value at c.in_err-key.ensures in
    on-err _ c.from_residual-in_err-key.result (keeps_same c.args.layers.now.upper c.insert.new.self w.err)
