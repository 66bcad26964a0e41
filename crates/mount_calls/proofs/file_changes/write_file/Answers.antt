use Rattle.std.proofs.Common.{IsSome, rules, sym, subst}
use Rattle.layer_tree.specs.Tree.{own_at, written, layer_of, SameObjects, Tree}
use Rattle.mount_calls.proofs.Named.{written-files}
use Rattle.mount_calls.proofs.Marks.{sets-written}
use Rattle.mount_calls.proofs.Writings.{upper-written}
use Rattle.mount_calls.proofs.Texts.{texts-written}
use Rattle.mount_calls.proofs.file_changes.write_file.Goals as goal

pub returns-clause-sound : goal.returns-clause-sound
returns-clause-sound c = (upper-written c.args.layers.now _ c.write.new.self c.write.result (sym c.upper_mut.ensures.value) c.write.ensures.objects_held c.write.ensures.keeps c.write.ensures.err).0

pub returns-clause-mounts : goal.returns-clause-mounts
returns-clause-mounts c = (upper-written c.args.layers.now _ c.write.new.self c.write.result (sym c.upper_mut.ensures.value) c.write.ensures.objects_held c.write.ensures.keeps c.write.ensures.err).1

pub returns-clause-files : goal.returns-clause-files
returns-clause-files c =
    let there : IsSome (own_at c.upper_mut.result.now c.in-Upper.key) = search rules in
    written-files c.upper_mut.result.now c.write.new.self c.in-Upper.key (λ old. written old c.args.start c.args.bytes.now) there c.write.ensures.objects_held c.args.layers.now (sym c.upper_mut.ensures.value) c.write.result c.write.ensures.sets c.write.ensures.err

pub returns-clause-objects : goal.returns-clause-objects
returns-clause-objects c = subst (λ (z : Tree). SameObjects (layer_of z) (layer_of c.write.new.self)) c.upper_mut.ensures.value c.write.ensures.objects_held

pub returns-clause-sets : goal.returns-clause-sets
returns-clause-sets c = sets-written c.args.layers.now c.upper_mut.result.now c.write.new.self (sym c.upper_mut.ensures.value) c.args.source c.in-Upper.key c.in-Upper.is (λ old. written old c.args.start c.args.bytes.now) c.write.result c.write.ensures.sets

pub returns-clause-texts : goal.returns-clause-texts
returns-clause-texts c =
    let there : IsSome (own_at c.upper_mut.result.now c.in-Upper.key) = search rules in
    texts-written c.args.layers.now c.upper_mut.result.now c.write.new.self c.in-Upper.key (λ old. written old c.args.start c.args.bytes.now) (sym c.upper_mut.ensures.value) there
    c.write.result c.write.ensures.sets c.write.ensures.err
