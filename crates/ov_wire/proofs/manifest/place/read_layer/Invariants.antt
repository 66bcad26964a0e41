use Rattle.std.proofs.Common.{◌≡◌, List, drop}
use Rattle.toml.specs.View.{items_view}
use Rattle.layer_tree.specs.Tree.{layer_of}
use Rattle.ov_wire.specs.ManifestLayers.{Entry, HasNoMark, entries_of, entries_from}
use Rattle.ov_wire.specs.Drafts.{IsDraft, Lists, first_root}
use Rattle.ov_wire.proofs.manifest.place.read_layer.Given as goal

abbrev pub invariant-loop-number : goal.invariant-loop-number
invariant-loop-number l =
    (before : List Entry)
    × (entries_of l.limit l.blobs (items_view l.entries) ≡ entries_from l.limit l.blobs l.number before (items_view (drop l.number l.entries)))
    × IsDraft (layer_of l.layer) (first_root (items_view l.entries)) l.root_is_set before
    × Lists l.links before
    × HasNoMark (layer_of l.layer)
