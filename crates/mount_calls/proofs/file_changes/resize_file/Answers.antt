use Rattle.std.proofs.Common.{IsSome, rules, sym, subst}
use Rattle.layer_tree.specs.Tree.{own_at, layer_of, SameObjects, Tree}
use Rattle.plain_model.specs.Changes.{sized}
use Rattle.mount_calls.proofs.Named.{cut-empties, written-files}
use Rattle.mount_calls.proofs.Marks.{sets-written}
use Rattle.mount_calls.proofs.Writings.{upper-written}
use Rattle.mount_calls.proofs.Texts.{texts-written}
use Rattle.mount_calls.proofs.file_changes.resize_file.Goals as goal

pub returns-clause-sound : goal.returns-clause-sound
returns-clause-sound c = (upper-written c.args.layers.now _ c.resize.new.self c.resize.result (sym c.upper_mut.ensures.value) c.resize.ensures.objects_held c.resize.ensures.keeps c.resize.ensures.err).0

pub returns-clause-mounts : goal.returns-clause-mounts
returns-clause-mounts c = (upper-written c.args.layers.now _ c.resize.new.self c.resize.result (sym c.upper_mut.ensures.value) c.resize.ensures.objects_held c.resize.ensures.keeps c.resize.ensures.err).1

pub returns-clause-files : goal.returns-clause-files
returns-clause-files c =
    let there : IsSome (own_at c.upper_mut.result.now c.in-Upper.key) = search rules in
    written-files c.upper_mut.result.now c.resize.new.self c.in-Upper.key (λ old. sized old c.args.size) there c.resize.ensures.objects_held c.args.layers.now (sym c.upper_mut.ensures.value) c.resize.result c.resize.ensures.sets c.resize.ensures.err

pub returns-clause-objects : goal.returns-clause-objects
returns-clause-objects c = subst (λ (z : Tree). SameObjects (layer_of z) (layer_of c.resize.new.self)) c.upper_mut.ensures.value c.resize.ensures.objects_held

pub returns-clause-sets : goal.returns-clause-sets
returns-clause-sets c = sets-written c.args.layers.now c.upper_mut.result.now c.resize.new.self (sym c.upper_mut.ensures.value) c.args.source c.in-Upper.key c.in-Upper.is (λ old. sized old c.args.size) c.resize.result c.resize.ensures.sets

pub returns-clause-texts : goal.returns-clause-texts
returns-clause-texts c =
    let there : IsSome (own_at c.upper_mut.result.now c.in-Upper.key) = search rules in
    texts-written c.args.layers.now c.upper_mut.result.now c.resize.new.self c.in-Upper.key (λ old. sized old c.args.size) (sym c.upper_mut.ensures.value) there
    c.resize.result c.resize.ensures.sets c.resize.ensures.err

pub returns-clause-empties : goal.returns-clause-empties
returns-clause-empties c =
    let there : IsSome (own_at c.upper_mut.result.now c.in-Upper.key) = search rules in
    cut-empties (own_at c.upper_mut.result.now c.in-Upper.key) c.args.size c.resize.result there c.resize.ensures.succeeds
