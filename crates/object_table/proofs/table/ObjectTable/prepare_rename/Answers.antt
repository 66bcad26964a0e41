use Rattle.std.proofs.Common.{refl, subst}
use Rattle.std.specs.Prelude.{OnErr}
use Rattle.object_table.specs.Objects.{Objects, SameSpots, IsHeldWithin}
use Rattle.object_table.proofs.Spots as spots
use Rattle.object_table.proofs.Spots.{objects_by}
use Rattle.object_table.proofs.table.ObjectTable.prepare_rename.Goals as goal

pub invariant_of-self : goal.invariant_of-self
invariant_of-self c =
    let was = objects_by c.self.inside.tree c.self.inside.files in
    let new = objects_by c.prepare_rename.new.self c.self.inside.files in
    spots.filed-same was new c.self.invariant (spots.keys-same was new (spots.same-spots _ _ _ _ c.prepare_rename.ensures.same)) (λ key. refl)

pub returns-in-Some-clause-same : goal.returns-in-Some-clause-same
returns-in-Some-clause-same c =
    let new = objects_by c.prepare_rename.new.self c.self.inside.files in
    subst (λ (t : Objects). SameSpots t new) c.self.view_is (spots.same-spots _ _ _ _ c.prepare_rename.ensures.same)

pub returns-in-Some-clause-prepared : goal.returns-in-Some-clause-prepared
returns-in-Some-clause-prepared c =
    let new = objects_by c.prepare_rename.new.self c.self.inside.files in
    spots.OnOk-map c.prepare_rename.result (λ ready. spots.ready-prepared new c.args.old.now c.args.new.now (λ _. ready)) c.prepare_rename.ensures.ready

pub returns-in-Some-clause-needed : goal.returns-in-Some-clause-needed
returns-in-Some-clause-needed c =
    let was = objects_by c.self.inside.tree c.self.inside.files in
    subst (λ (t : Objects). OnErr c.prepare_rename.result (IsHeldWithin t c.args.old.now)) c.self.view_is
    (spots.OnErr-map c.prepare_rename.result (spots.held-within was c.args.old.now) c.prepare_rename.ensures.needed)

pub returns-in-None-clause-prepared : goal.returns-in-None-clause-prepared
returns-in-None-clause-prepared c =
    spots.ready-prepared c.args.self.now c.args.old.now c.args.new.now (λ off. absurd (off c.in-None.ensures))
