use Rattle.std.proofs.Common.{◌≡◌, drop}
use Rattle.toml.specs.View.{items_view}
use Rattle.ov_wire.specs.Drafts.{first_root}
use Rattle.ov_wire.proofs.manifest.place.root_attributes.Given as goal

abbrev pub invariant-loop-entry : goal.invariant-loop-entry
invariant-loop-entry l = first_root (items_view (drop l.entry-index l.entries)) ≡ first_root (items_view l.entries)
