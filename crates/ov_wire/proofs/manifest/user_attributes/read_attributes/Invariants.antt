use Rattle.std.proofs.Common.{◌≡◌, [], drop}
use Rattle.toml.specs.View.{items_view}
use Rattle.ov_wire.specs.ManifestEntries.{attributes_from}
use Rattle.ov_wire.proofs.manifest.user_attributes.read_attributes.Given as goal

abbrev pub invariant-loop-pair : goal.invariant-loop-pair
invariant-loop-pair l = attributes_from [] (items_view l.pairs) ≡ attributes_from l.user (items_view (drop l.pair-index l.pairs))
