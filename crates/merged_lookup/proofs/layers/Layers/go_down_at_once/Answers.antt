use Rattle.std.proofs.Common.{◌≢◌, [], ◌<◌, length, reverse, ◌∙◌, ap, arith}
use Rattle.merged_lookup.specs.Merged.{trees}
use Rattle.merged_lookup.specs.Descent.{places_from}
use Rattle.merged_lookup.proofs.Ways.{reached-way}
use Rattle.merged_lookup.proofs.layers.Layers.go_down_at_once.Goals as goal

pub returns-clause-way : goal.returns-clause-way
returns-clause-way c =
    let some : 0 < length c.cross_all.result.items = grind arith in
    let reached : places_from 0 (trees c.args.self.now) (reverse c.args.names.now) ≢ [] = λ e. omega (arith, ap length (c.cross_all.ensures ∙ e)) in
    reached-way c.args.self.now (reverse c.args.names.now) reached
