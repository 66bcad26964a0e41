use Rattle.std.proofs.Common.{◌+◌, ◌<◌, [], ◌++◌, length, arith, ap, ◌∙◌}
use Rattle.merged_lookup.specs.Merged.{trees}
use Rattle.merged_lookup.specs.Descent.{places_from}
use Rattle.merged_lookup.proofs.Descending.{roots-step}
use Rattle.merged_lookup.proofs.descent.roots.Goals as goal

pub loop-layer-preserved : goal.loop-layer-preserved
loop-layer-preserved c =
    let within : c.loop-layer.layer < length (trees c.args.layers.now) = omega (arith, c.count-layer-end.ensures.count) in (
      ap (λ s. s ++ places_from (c.loop-layer.layer + 1) (trees c.args.layers.now) []) c.push.ensures.items
          ∙ roots-step c.loop-layer.layer (trees c.args.layers.now) c.loop-layer.places.items (places_from c.args.first (trees c.args.layers.now) []) within c.loop-layer.invariant.0,
      omega (arith, c.push.ensures.len, c.loop-layer.invariant.1),
    )
