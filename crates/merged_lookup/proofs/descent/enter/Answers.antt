use Rattle.std.proofs.Common.{◌≡◌, ◌<◌, ◌++◌, ◌+◌, ℕ, Bor, List, slice_set, sym, ap, ap₂, ◌∙◌, arith, length, get_or, take, drop}
use Rattle.std.proofs.lemmas.Grind.{common_steps}
use Rattle.std.proofs.lemmas.List.{length-set}
use Rattle.plain_model.specs.Layers.{Name, Path}
use Rattle.layer_tree.specs.Tree.{Tree}
use Rattle.ov_base.specs.declared.place.Place.{Place}
use Rattle.merged_lookup.specs.Merged.{trees}
use Rattle.merged_lookup.specs.Descent.{descend}
use Rattle.merged_lookup.specs.Trails.{IsFurther}
use Rattle.merged_lookup.proofs.Trails.{further-first, further-reached}
use Rattle.merged_lookup.proofs.descent.enter.Goals.{in-Through, in-By, in-From+in-Some-further}
use Rattle.merged_lookup.proofs.descent.enter.Goals as goal

pub loop-index-preserved : goal.loop-index-preserved
loop-index-preserved c = elim c.match-onward_in.branch [
  | in-Through w ↦ grind (arith, common_steps)
  | in-By w ↦ grind (arith, common_steps)
  | in-From+in-Some-further w ↦
      let ts : List Tree = trees c.args.layers.now in
      let s : List Place = c.loop-index.places.items in
      let new : List Place = c.match-onward_in.places.items in
      let i : ℕ = c.loop-index.index in
      let none : Place = record { layer = 0; key = 0 } in
      let d : Place = get_or c.as_slice.result.now i none in
      let q : Bor Path = w.in-From.path in
      let other : Name = w.in-Some-further.other.now in
      let is : IsFurther c.args.trail i d q.now other = w.in-Some-further.ensures in
      let first : i ≡ 0 = further-first c.args.trail i d q.now other is in
      let within : i < length s = omega (arith, c.loop-index-test.true, c.loop-index.invariant.count) in
      let at : d ≡ get_or s i none = ap (λ z. get_or z i none) c.as_slice.ensures.value in
      let written : new ≡ slice_set s c.loop-index.kept (record { layer = d.layer; key = w.in-From.key }) =
      ap (λ z. z.items) w.places-is ∙ w.put-in-From.ensures in
      let reached =
      further-reached ts c.in-Some.layer.now s c.args.places.now.items new d none i c.loop-index.kept c.args.name.now c.loop-index.asked.now
      other w.in-From.key q c.args.trail c.onward_in.result c.requires is c.loop-index.invariant.unchanged within c.loop-index.invariant.kept
      at (sym c.in-Some.ensures) c.onward_in.ensures.tells w.in-From.is written c.loop-index.invariant.reached in
      let goes_on : ℕ → Name → List Place = λ j n. take j new ++ descend ts (drop (i + 1) new) n in
      record {
        kept = omega (arith, c.loop-index.invariant.kept, w.kept-is);
        unchanged = λ zero. absurd (omega (arith, zero));
        count = ap length written ∙ length-set s c.loop-index.kept _ ∙ c.loop-index.invariant.count;
        reached = reached ∙ sym (ap₂ goes_on w.kept-is (ap (λ z. z.now) w.asked-is));
        first = λ zero. absurd (omega (arith, zero, w.kept-is));
      }
]
