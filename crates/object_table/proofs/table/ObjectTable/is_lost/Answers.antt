use Rattle.std.proofs.Common.{◌≡◌, Some, subst, sym, ap, ◌∙◌}
use Rattle.std.proofs.lemmas.Bool.{false≢true}
use Rattle.object_table.specs.Objects.{Nowhere, Objects, Spot, spot_of}
use Rattle.object_table.proofs.Spots as spots
use Rattle.object_table.proofs.Spots.{objects_by}
use Rattle.object_table.proofs.table.ObjectTable.is_lost.Goals as goal

pub returns-then-holders-eq0 : goal.returns-then-holders-eq0
returns-then-holders-eq0 c =
    let was = objects_by c.self.inside.tree c.self.inside.files in (
      λ f. absurd (false≢true f),
      λ lost. absurd (spots.unheld-found was c.args.number Nowhere (c.lawful.ensures.counted c.args.number) (sym c.holders.ensures ∙ c.if-holders-eq0.true)
          (subst (λ (t : Objects). spot_of t c.args.number ≡ Some Nowhere) (sym c.self.view_is) lost)),
    )

pub returns-in-Some : goal.returns-in-Some
returns-in-Some c =
    let was = objects_by c.self.inside.tree c.self.inside.files in
    let at = spots.apart-spot was c.args.number _ c.in-Some.ensures in (
      λ yes. subst (λ (t : Objects). spot_of t c.args.number ≡ Some Nowhere) c.self.view_is (at ∙ ap (λ (x : Spot). Some x) (c.is_nowhere.ensures.0 yes)),
      λ lost.
          let both = sym at ∙ subst (λ (t : Objects). spot_of t c.args.number ≡ Some Nowhere) (sym c.self.view_is) lost in
          c.is_nowhere.ensures.1 (cc),
    )

pub returns-in-None : goal.returns-in-None
returns-in-None c =
    let was = objects_by c.self.inside.tree c.self.inside.files in (
      λ f. absurd (false≢true f),
      λ lost. absurd (spots.lost-apart was c.args.number (subst (λ (t : Objects). spot_of t c.args.number ≡ Some Nowhere) (sym c.self.view_is) lost) (sym c.in-None.ensures)),
    )
