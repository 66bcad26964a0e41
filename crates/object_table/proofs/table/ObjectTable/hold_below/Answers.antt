use Rattle.std.proofs.Common.{◌≡◌, ◌∷◌, Some, refl, sym, subst}
use Rattle.plain_model.specs.Layers.{Path}
use Rattle.object_table.specs.Objects.{At, Objects, Holds, SameSpots, spot_of}
use Rattle.object_table.proofs.Walking.{on_err}
use Rattle.object_table.proofs.Spots as spots
use Rattle.object_table.proofs.Spots.{objects_by}
use Rattle.object_table.proofs.table.ObjectTable.hold_below.Goals as goal

pub open_below-requires : goal.open_below-requires
open_below-requires c =
    (c.requires.0, spots.opened-path (objects_by c.self.inside.tree c.self.inside.files) c.args.directory c.requires.0 (subst (λ (t : Objects). spot_of t c.args.directory ≡ Some (At c.requires.0)) (sym c.self.view_is) c.requires.1))

pub invariant_of-self : goal.invariant_of-self
invariant_of-self c =
    let was = objects_by c.self.inside.tree c.self.inside.files in
    let new = objects_by c.open_below.new.self c.self.inside.files in
    spots.filed-same was new c.self.invariant (spots.keys-same was new (spots.same-spots _ _ _ _ c.in_err-number.ensures.err)) (λ key. refl)

pub invariant_of-self-2 : goal.invariant_of-self-2
invariant_of-self-2 c =
    let was = objects_by c.self.inside.tree c.self.inside.files in
    let new = objects_by c.open_below.new.self c.self.inside.files in
    let at = spots.opened-path was c.args.directory c.requires.0 (subst (λ (t : Objects). spot_of t c.args.directory ≡ Some (At c.requires.0)) (sym c.self.view_is) c.requires.1) in
    spots.filed-same was new c.self.invariant (spots.keys-holds was new c.in_ok-number.number _ (spots.opens-holds _ _ _ _ (c.args.name.now ∷ c.requires.0) c.in_ok-number.number (c.in_ok-number.ensures.opens c.requires.0 at)) (λ key e. cc)) (λ key. refl)

pub returns-clause-holds : goal.returns-clause-holds
returns-clause-holds c =
    let was = objects_by c.self.inside.tree c.self.inside.files in
    let new = objects_by c.open_below.new.self c.self.inside.files in
    subst (λ (t : Objects). (path : Path) → spot_of t c.args.directory ≡ Some (At path) → Holds t new (At (c.args.name.now ∷ path)) c.in_ok-number.number) c.self.view_is
    (λ path is. spots.opens-holds _ _ _ _ (c.args.name.now ∷ path) c.in_ok-number.number (c.in_ok-number.ensures.opens path (spots.opened-path was c.args.directory path is)))

pub returns-in_err-number-clause-err : goal.returns-in_err-number-clause-err
returns-in_err-number-clause-err c =
    let new = objects_by c.open_below.new.self c.self.inside.files in
    on_err c.from_residual.result (subst (λ (t : Objects). SameSpots t new) c.self.view_is (spots.same-spots _ _ _ _ c.in_err-number.ensures.err))
