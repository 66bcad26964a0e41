use Rattle.std.proofs.Common.{refl, subst}
use Rattle.layer_tree.specs.Tree.{Tree, layer_of, Frees, SameObjects}
use Rattle.plain_model.specs.Layers.{IsLayer}
use Rattle.copy_up.proofs.Keeping.{same-alike, mounts-alike, sound-alike}
use Rattle.make_remove.proofs.Freed.{marks-freed, named-same}
use Rattle.make_remove.proofs.freeing.free.Goals as goal

pub returns-clause-same : goal.returns-clause-same
returns-clause-same c =
    let held = subst (λ (u : Tree). SameObjects (layer_of u) (layer_of c.discard.new.self)) c.upper_mut.ensures.value c.discard.ensures.objects_held in
    let frees = subst (λ (u : Tree). Frees u c.discard.new.self c.args.key) c.upper_mut.ensures.value c.discard.ensures.frees in
    same-alike c.args.layers.now _ refl held (named-same c.args.layers.now.upper c.discard.new.self c.args.key c.requires frees)

pub returns-clause-sound : goal.returns-clause-sound
returns-clause-sound c =
    let held = subst (λ (u : Tree). SameObjects (layer_of u) (layer_of c.discard.new.self)) c.upper_mut.ensures.value c.discard.ensures.objects_held in
    let frees = subst (λ (u : Tree). Frees u c.discard.new.self c.args.key) c.upper_mut.ensures.value c.discard.ensures.frees in
    sound-alike c.args.layers.now (record c.args.layers.now { upper = c.discard.new.self }) refl held (named-same c.args.layers.now.upper c.discard.new.self c.args.key c.requires frees) (subst (λ (u : Tree). IsLayer (layer_of u) → IsLayer (layer_of c.discard.new.self)) c.upper_mut.ensures.value c.discard.ensures.keeps)

pub returns-clause-mounts : goal.returns-clause-mounts
returns-clause-mounts c =
    let held = subst (λ (u : Tree). SameObjects (layer_of u) (layer_of c.discard.new.self)) c.upper_mut.ensures.value c.discard.ensures.objects_held in
    let frees = subst (λ (u : Tree). Frees u c.discard.new.self c.args.key) c.upper_mut.ensures.value c.discard.ensures.frees in
    mounts-alike c.args.layers.now (record c.args.layers.now { upper = c.discard.new.self }) refl held (named-same c.args.layers.now.upper c.discard.new.self c.args.key c.requires frees) (subst (λ (u : Tree). IsLayer (layer_of u) → IsLayer (layer_of c.discard.new.self)) c.upper_mut.ensures.value c.discard.ensures.keeps)

pub returns-clause-texts : goal.returns-clause-texts
returns-clause-texts c =
    let frees = subst (λ (u : Tree). Frees u c.discard.new.self c.args.key) c.upper_mut.ensures.value c.discard.ensures.frees in
    marks-freed c.args.layers.now.upper c.discard.new.self c.args.key frees
