use Rattle.std.proofs.Common.{◌≡◌, None, Some, refl, subst, sym}
use Rattle.merged_lookup.specs.Merged.{layers_of, IsTopmost}
use Rattle.merged_lookup.specs.declared.layers.Layers.{Layers}
use Rattle.overlay_core.specs.PathFaults.{arm_fault}
use Rattle.overlay_core.proofs.ArmFaults.{walk-arm}
use Rattle.overlay_core.proofs.arm_calls.object_to_arm.Goals as goal

pub returns-in-Err-clause-refused : goal.returns-in-Err-clause-refused
returns-in-Err-clause-refused c =
    let p = c.args.path.now in
    let mask = c.args.mask in
    let seen : Layers = c.layers-layers.result.now in
    subst (λ (l : Layers). arm_fault (layers_of l) p mask ≡ Some c.in-Err.errno)
    c.layers-layers.ensures
    (walk-arm (layers_of seen) p mask c.in-Err.errno c.in-Err.ensures.refused)

pub object_of-requires : goal.object_of-requires
object_of-requires c = (
  c.args.path.now,
  subst (λ (l : Layers). IsTopmost l c.args.path.now (Some c.in-Ok.top)) c.layers-layers.ensures
      c.in-Ok.ensures.found,
)

pub returns-in-Some-clause-refused : goal.returns-in-Some-clause-refused
returns-in-Some-clause-refused c =
    let p = c.args.path.now in
    let mask = c.args.mask in
    let seen : Layers = c.layers-layers.result.now in
    let fault : Some c.in-Some.errno ≡ arm_fault (layers_of seen) p mask =
    c.in-Some.ensures p c.in-Ok.ensures.found (c.in-Ok.ensures.answers.0 refl) in
    subst (λ (l : Layers). arm_fault (layers_of l) p mask ≡ Some c.in-Some.errno)
    c.layers-layers.ensures (sym fault)

pub returns-in-None-clause-allowed : goal.returns-in-None-clause-allowed
returns-in-None-clause-allowed c =
    let p = c.args.path.now in
    let mask = c.args.mask in
    let seen : Layers = c.layers-layers.result.now in
    let fault : None ≡ arm_fault (layers_of seen) p mask =
    c.in-None.ensures p c.in-Ok.ensures.found (c.in-Ok.ensures.answers.0 refl) in
    subst (λ (l : Layers). arm_fault (layers_of l) p mask ≡ None) c.layers-layers.ensures
    (sym fault)

pub returns-in-None-clause-object : goal.returns-in-None-clause-object
returns-in-None-clause-object c =
    c.object_of.ensures c.args.path.now
    (subst (λ (l : Layers). IsTopmost l c.args.path.now (Some c.in-Ok.top)) c.layers-layers.ensures
    c.in-Ok.ensures.found)
