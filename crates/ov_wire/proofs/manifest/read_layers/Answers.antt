use Rattle.std.proofs.Common.{subst, ◌∙◌, rules}
use Rattle.layer_tree.specs.Tree.{layer_of}
use Rattle.toml.specs.View.{view}
use Rattle.ov_wire.specs.Manifests.{entries_in}
use Rattle.ov_wire.specs.ManifestLayers.{IsSpelled}
use Rattle.ov_wire.proofs.Reading.{spelled-on, layers-on, layer-on}
use Rattle.ov_wire.proofs.Unmarked.{unmarked-on}
use Rattle.ov_wire.proofs.manifest.read_layers.Goals as goal

pub loop-index-preserved : goal.loop-index-preserved
loop-index-preserved c =
    let spelled : IsSpelled c.args.limit c.args.blobs.now (layer_of c.in_ok-read_layer.field-0) (entries_in (view c.index-tables-index.result)) =
    subst (λ items. IsSpelled c.args.limit c.args.blobs.now (layer_of c.in_ok-read_layer.field-0) items) c.entries_in.ensures c.in_ok-read_layer.ensures.reads in
    record {
      count = search rules;
      spelled = spelled-on c.args.limit c.args.blobs.now c.loop-index.layers.items c.push.new.self.items c.in_ok-read_layer.field-0 c.args.tables.now c.loop-index.index c.index-tables-index.result c.in_ok-push.ensures.items c.loop-index-test.true c.index-tables-index.is c.loop-index.invariant.spelled spelled;
      layers = layers-on c.args.limit c.args.blobs.now c.loop-index.layers.items c.push.new.self.items c.in_ok-read_layer.field-0 c.args.tables.now c.loop-index.index c.index-tables-index.result c.in_ok-push.ensures.items c.loop-index.invariant.layers c.in_ok-read_layer.ensures.layer;
      unmarked = unmarked-on c.loop-index.layers.items c.push.new.self.items c.in_ok-read_layer.field-0 c.in_ok-push.ensures.items c.loop-index.invariant.unmarked c.in_ok-read_layer.ensures.unmarked;
      faults = c.loop-index.invariant.faults ∙ layer-on c.args.limit c.args.blobs.now c.args.tables.now c.loop-index.index c.loop-index.index c.index-tables-index.result spelled.0 c.loop-index-test.true c.index-tables-index.is spelled.1;
    }
