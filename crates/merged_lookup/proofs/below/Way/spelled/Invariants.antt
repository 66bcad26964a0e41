use Rattle.std.proofs.Common.{◌≡◌, ◌++◌, reverse, map, take}
use Rattle.plain_model.specs.Layers.{Name}
use Rattle.merged_lookup.proofs.below.Way.spelled.Given as goal

abbrev pub invariant-loop-name : goal.invariant-loop-name
invariant-loop-name l = l.path ≡ reverse (l.self.redirect.now ++ map {B = Name} (λ b. b.now) (take l.name-index l.name-items))
