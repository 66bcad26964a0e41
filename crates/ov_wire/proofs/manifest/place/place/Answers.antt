use Rattle.std.proofs.Common.{◌≡◌, is_some, true, reverse, Option, None, sym, ap, ◌∙◌}
use Rattle.plain_model.specs.Layers.{Object}
use Rattle.layer_tree.specs.Tree.{layer_of, entry}
use Rattle.layer_tree.specs.declared.name_table.Entry.{Entry}
use Rattle.ov_wire.proofs.Placing.{parent-there, name-there, at-fault-exists, planted, none-of}
use Rattle.ov_wire.proofs.Planting.{leads-there, name-taken, name-free}
use Rattle.ov_wire.proofs.manifest.place.place.Goals as goal

pub returns-then-is_some-clause-places : goal.returns-then-is_some-clause-places
returns-then-is_some-clause-places c = λ set a before d tells.
    let taken : is_some (entry c.args.layer.now c.in-Some.parent c.args.name.now) ≡ true = ap (λ (o : Option Entry). is_some o) (sym c.entry.ensures) ∙ sym c.is_some.ensures ∙ c.if-is_some.true in
    at-fault-exists before c.args.name.now (reverse c.args.parents.now) c.args.item
    (sym (parent-there (layer_of c.args.layer.now) a set before d (reverse c.args.parents.now)) ∙ leads-there c.args.layer.now c.lawful.ensures.tree (reverse c.args.parents.now) c.in-Some.parent c.in-Some.ensures.found c.in-Some.ensures.directory)
    (sym (name-there (layer_of c.args.layer.now) a set before d c.args.name.now (reverse c.args.parents.now)) ∙ name-taken c.args.layer.now c.lawful.ensures.tree (reverse c.args.parents.now) c.in-Some.parent c.args.name.now c.in-Some.ensures.found taken)

pub returns-clause-keeps : goal.returns-clause-keeps
returns-clause-keeps c = c.plant.ensures.keeps (reverse c.args.parents.now) c.in-Some.ensures.found

pub returns-clause-places : goal.returns-clause-places
returns-clause-places c = λ set a before d tells.
    let free : entry c.args.layer.now c.in-Some.parent c.args.name.now ≡ None = sym c.entry.ensures ∙ none-of c.entry.result (sym c.is_some.ensures ∙ c.if-is_some.false) in
    planted set (layer_of c.args.layer.now) (layer_of c.plant.new.layer) a before c.args.name.now (reverse c.args.parents.now) c.args.item c.args.to_further c.plant.result d tells
    (sym (parent-there (layer_of c.args.layer.now) a set before d (reverse c.args.parents.now)) ∙ leads-there c.args.layer.now c.lawful.ensures.tree (reverse c.args.parents.now) c.in-Some.parent c.in-Some.ensures.found c.in-Some.ensures.directory)
    (sym (name-there (layer_of c.args.layer.now) a set before d c.args.name.now (reverse c.args.parents.now)) ∙ ap (λ (o : Option Object). is_some o) (name-free c.args.layer.now (reverse c.args.parents.now) c.in-Some.parent c.args.name.now c.in-Some.ensures.found free))
    (c.plant.ensures.keeps (reverse c.args.parents.now) c.in-Some.ensures.found d.layer)
    (rw c.in_ok-clone.ensures.cases at (c.plant.ensures.plants (reverse c.args.parents.now) c.in-Some.ensures.found d.layer))
