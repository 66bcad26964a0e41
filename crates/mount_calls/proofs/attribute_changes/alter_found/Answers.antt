use Rattle.copy_up.proofs.Keeping.{or-first}
use Rattle.mount_calls.specs.AttributeCalls.{asking_fault}
use Rattle.mount_calls.proofs.Altering.{alters-done, alters-unmade, alters-wanted}
use Rattle.mount_calls.proofs.attribute_changes.alter_found.Goals as goal

pub change-requires : goal.change-requires
change-requires c = or-first (asking_fault c.args.call.now) _ c.requires.allowed

pub returns-in_err-change : goal.returns-in_err-change
returns-in_err-change c = alters-unmade c.args.call.now c.args.layers.now c.args.metacopy c.args.path.now c.from_residual.result c.from_residual.ensures.0

pub returns-in_err-key : goal.returns-in_err-key
returns-in_err-key c =
    let kept = c.in_err-key.ensures in
    alters-wanted c.args.call.now c.args.layers.now c.alter.new.layers c.args.metacopy c.args.path.now c.from_residual-in_err-key.result
    c.from_residual-in_err-key.ensures.0 kept.no_memory kept.sound

pub returns : goal.returns
returns c =
    let made = c.in_ok-key.ensures in
    alters-done c.args.call.now c.args.layers.now c.alter.new.layers c.args.metacopy c.args.path.now
    (c.args.found.0.now, c.args.found.1) c.requires made.lowers made.sound c.in_ok-change.change
    c.in_ok-change.ensures made.altered
    c.lawful.ensures.tree made.object c.in_ok-key.key made.key made.texts
