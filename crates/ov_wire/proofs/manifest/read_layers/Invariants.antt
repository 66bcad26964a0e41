use Rattle.std.proofs.Common.{◌≡◌, All, vec_len, drop, take, map}
use Rattle.toml.specs.View.{items_view}
use Rattle.plain_model.specs.Layers.{AreLayers}
use Rattle.layer_tree.specs.Tree.{layer_of}
use Rattle.ov_wire.specs.ManifestLayers.{AreSpelled, HasNoMark, layers_fault}
use Rattle.ov_wire.proofs.manifest.read_layers.Given as goal

abbrev pub invariant-loop-index : goal.invariant-loop-index
invariant-loop-index l = record {
  count : vec_len l.layers ≡ l.index;
  spelled : AreSpelled l.limit l.blobs (map layer_of l.layers.items) (items_view (take l.index l.tables));
  layers : AreLayers (map layer_of l.layers.items);
  unmarked : All HasNoMark (map layer_of l.layers.items);
  faults : layers_fault l.limit l.blobs 0 (items_view l.tables) ≡ layers_fault l.limit l.blobs l.index (items_view (drop l.index l.tables));
}
