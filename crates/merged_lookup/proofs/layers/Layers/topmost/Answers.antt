use Rattle.std.proofs.Common.{◌≤◌, length, arith, ◌∙◌}
use Rattle.merged_lookup.specs.Merged.{trees}
use Rattle.merged_lookup.proofs.Looking.{topmost-shown}
use Rattle.merged_lookup.proofs.layers.Layers.topmost.Goals as goal

pub returns : goal.returns
returns c =
    let few : length (trees c.args.self.now) ≤ 17 = omega (arith, c.args.self.now.few_lowers) in
    λ p is. topmost-shown c.args.self.now c.places.result.now c.args.name.now few p (c.places.ensures ∙ is.places) c.topmost.result c.topmost.ensures.place c.topmost.ensures.directory
