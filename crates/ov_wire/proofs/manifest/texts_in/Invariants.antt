use Rattle.std.proofs.Common.{◌≡◌, ◌++◌, drop, map}
use Rattle.toml.specs.View.{items_view}
use Rattle.ov_wire.specs.Manifests.{texts_in}
use Rattle.ov_wire.proofs.manifest.texts_in.Given as goal

abbrev pub invariant-loop-value : goal.invariant-loop-value
invariant-loop-value l = texts_in (items_view l.values) ≡ map (λ text. text.now) l.texts.items ++ texts_in (items_view (drop l.value-index l.values))
